-- What the values of the parsers are in the grammar.
use Rattle.psm_tree.specs.ExprValues.{Test, Nothing, Compare, IsNull, Between, In, Like, Item, Plain, Rows, Aggregate}
use Rattle.psm_parse_expr.specs.declared.predicate.Test.{Test as RustTest}
use Rattle.psm_parse_expr.specs.declared.predicate.Test.TheVariants as asked
use Rattle.psm_parse_expr.specs.declared.query.UnnamedItem.{UnnamedItem}
use Rattle.psm_parse_expr.specs.declared.query.UnnamedItem.TheVariants as items

abbrev pub test_of : RustTest → Test
test_of asked.Nothing = Nothing
test_of (asked.Compare operator right) = Compare operator right
test_of (asked.IsNull negated) = IsNull negated
test_of (asked.Between negated low high) = Between negated low high
test_of (asked.In negated list) = In negated list
test_of (asked.Like negated pattern escape) = Like negated pattern escape

abbrev pub item_of : UnnamedItem → Item
item_of (items.Plain expr) = Plain expr
item_of (items.Rows place) = Rows place
item_of (items.Aggregate place function argument) = Aggregate place function argument
