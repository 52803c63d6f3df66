-- The rows between the edges of a walk are those between the bounds for which a test asks.
use Rattle.std.proofs.Common.{◌≡◌, ℕ, Bool, true, false, ◌&&◌, List, [], ◌∷◌, refl, ap, ◌∙◌, Option, Some, None}
use Rattle.std.specs.Prelude.{filter, not, reverse, slice_index_or, if◌then◌else◌}
use Rattle.std.specs.Ordering.{is_eq, is_ge, is_gt, is_le, is_lt, ordering_then}
use Rattle.std.specs.declared.cmp.Ordering.{Ordering}
use Rattle.std.specs.declared.cmp.Ordering.TheVariants.{Less, Equal, Greater}
use Rattle.psm_value.specs.declared.datum.Datum.{Datum}
use Rattle.psm_value.specs.declared.datum.Datum.TheVariants.{Null}
use Rattle.psm_value.specs.Order.{data_order}
use Rattle.psm_exprcode.specs.declared.op.Line.{Line}
use Rattle.psm_table.specs.Cuts.{is_past}
use Rattle.psm_table.specs.Key.{values_at}
use Rattle.psm_table.specs.Map.{prefix_order}
use Rattle.psm_table.specs.Queries.{in_walk}
use Rattle.psm_tablecode.specs.Bounds.{bounds_by, bounds_of, has_between, high_sought, low_sought, of_range, Bounds, End}
use Rattle.psm_tablecode.specs.Bounds as bounds
use Rattle.psm_tablecode.specs.Edges.{begins_after, end_values, ends_after, high_edge, is_begun, is_not_ended, lies_within, low_edge, rows_between}
use Rattle.psm_tablecode.specs.Tests.{sought}
use Rattle.psm_tablecode.proofs.Stepped.{filter-reverse}

-- ---- the order of a key and values that it begins with, or doesn't

abbrev past_by : Bool → Ordering → Bool
past_by is_after o = if is_after then is_gt o else not (is_lt o)

one_order : (d v : Datum) (key : List Datum) → prefix_order (v ∷ []) (d ∷ key) ≡ ordering_then (data_order d v) Equal
one_order d v key = refl

-- a key is within edges whose values begin with a value, where its first value is equal to that and the others are within the edges without it
next_by : (o : Ordering) (p q : Ordering) (b c : Bool) → (past_by b (ordering_then o p) && not (past_by c (ordering_then o q))) ≡ (is_eq o && (past_by b p && not (past_by c q)))
next_by Less p q true true = refl
next_by Less p q true false = refl
next_by Less p q false true = refl
next_by Less p q false false = refl
next_by Equal p q b c = refl
next_by Greater p q true true = refl
next_by Greater p q true false = refl
next_by Greater p q false true = refl
next_by Greater p q false false = refl

begins_by : (o : Ordering) (is_in : Bool) → past_by (not is_in) (ordering_then o Equal) ≡ (if is_in then is_ge o else is_gt o)
begins_by Less true = refl
begins_by Less false = refl
begins_by Equal true = refl
begins_by Equal false = refl
begins_by Greater true = refl
begins_by Greater false = refl

ends_by : (o : Ordering) (is_in : Bool) → not (past_by is_in (ordering_then o Equal)) ≡ (if is_in then is_le o else is_lt o)
ends_by Less true = refl
ends_by Less false = refl
ends_by Equal true = refl
ends_by Equal false = refl
ends_by Greater true = refl
ends_by Greater false = refl

-- ---- the edges of bounds

abbrev Begins : List Datum → Option End → List Datum → Bool
Begins firsts low key = is_past (end_values firsts low) (begins_after low) key

abbrev Ends : List Datum → Option End → List Datum → Bool
Ends firsts high key = not (is_past (end_values firsts high) (ends_after high) key)

begins_at : (low : Option End) (d : Datum) (key : List Datum) → Begins [] low (d ∷ key) ≡ bounds.is_from low d
begins_at None d key = refl
begins_at (Some e) d key = begins_by (data_order d e.value) e.is_in

ends_at : (high : Option End) (d : Datum) (key : List Datum) → Ends [] high (d ∷ key) ≡ bounds.is_up_to high d
ends_at None d key = refl
ends_at (Some e) d key = ends_by (data_order d e.value) e.is_in

values_next : (v : Datum) (vs : List Datum) (o : Option End) → end_values (v ∷ vs) o ≡ v ∷ end_values vs o
values_next v vs None = refl
values_next v vs (Some e) = refl

-- where all values of a key are first values, there is no end
abbrev Reach : List Datum → Option End → Option End → List Datum → Type 0
Reach [] low high [] = (low ≡ None) × (high ≡ None)
Reach [] low high (d ∷ key) = Unit {0}
Reach (v ∷ vs) low high [] = Unit {0}
Reach (v ∷ vs) low high (d ∷ key) = Reach vs low high key

none_past : (v : Datum) (vs : List Datum) (b : Bool) → is_past (v ∷ vs) b [] ≡ false
none_past v vs true = refl
none_past v vs false = refl

within_first : (d v : Datum) (vs ws key : List Datum) (b c : Bool)
    → (is_past (v ∷ vs) b (d ∷ key) && not (is_past (v ∷ ws) c (d ∷ key))) ≡ (is_eq (data_order d v) && (is_past vs b key && not (is_past ws c key)))
within_first d v vs ws key b c = next_by (data_order d v) (prefix_order vs key) (prefix_order ws key) b c

-- a key is between bounds where it is past the one edge and not past the other
within : (firsts : List Datum) (low high : Option End) (key : List Datum) → Reach firsts low high key → (Begins firsts low key && Ends firsts high key) ≡ has_between firsts low high key
within [] low high [] r = λ i. Begins [] (r.0 i) [] && Ends [] (r.1 i) []
within [] low high (d ∷ key) r = λ i. begins_at low d key i && ends_at high d key i
within (v ∷ vs) low high [] r =
    ap (λ ws. is_past ws (begins_after low) [] && Ends (v ∷ vs) high []) (values_next v vs low) ∙ ap (λ b. b && Ends (v ∷ vs) high []) (none_past v (end_values vs low) (begins_after low))
within (v ∷ vs) low high (d ∷ key) r =
    (λ i. is_past (values_next v vs low i) (begins_after low) (d ∷ key) && not (is_past (values_next v vs high i) (ends_after high) (d ∷ key)))
    ∙ within_first d v (end_values vs low) (end_values vs high) key (begins_after low) (ends_after high)
    ∙ ap (λ b. is_eq (data_order d v) && b) (within vs low high key r)

-- without values there is nothing before an edge, and nothing after it
all_past : (key : List Datum) → is_past [] false key ≡ true
all_past key = refl

begun_at : (firsts : List Datum) (low : Option End) (key : List Datum) → is_begun (low_edge firsts low) key ≡ Begins firsts low key
begun_at [] None key = refl
begun_at [] (Some e) key = refl
begun_at (v ∷ vs) None key = refl
begun_at (v ∷ vs) (Some e) key = refl

ended_at : (firsts : List Datum) (high : Option End) (key : List Datum) → is_not_ended (high_edge firsts high) key ≡ Ends firsts high key
ended_at [] None key = refl
ended_at [] (Some e) key = refl
ended_at (v ∷ vs) None key = refl
ended_at (v ∷ vs) (Some e) key = refl

pub lies_between : (firsts : List Datum) (low high : Option End) (key : List Datum) → Reach firsts low high key → lies_within (low_edge firsts low) (high_edge firsts high) key ≡ has_between firsts low high key
lies_between firsts low high key r = (λ i. begun_at firsts low key i && ended_at firsts high key i) ∙ within firsts low high key r

-- ---- what a test asks for

reach_by : (x : Datum) (xs : List Datum) (o : Option Datum) (more : Bounds) (low high : Option End) → Reach more.firsts more.low more.high xs
    → (let b : Bounds = bounds_by o more (of_range low high) in Reach b.firsts b.low b.high (x ∷ xs))
reach_by x xs (Some d) more low high r = r
reach_by x xs None more low high r = tt

pub bounds_reach : (columns : List ℕ) (vars row : List Datum) (lines : List Line) → (let b : Bounds = bounds_of columns vars lines in Reach b.firsts b.low b.high (values_at columns row))
bounds_reach [] vars row lines = (refl, refl)
bounds_reach (c ∷ columns) vars row lines =
    reach_by (slice_index_or row c Null) (values_at columns row) (sought c vars lines) (bounds_of columns vars lines) (low_sought c vars lines) (high_sought c vars lines) (bounds_reach columns vars row lines)

-- ---- rows

module _ (columns : List ℕ) (vars : List Datum) (lines : List Line) where
  abbrev b : Bounds
  b = bounds_of columns vars lines

  same : (row : List Datum) → lies_within (low_edge b.firsts b.low) (high_edge b.firsts b.high) (values_at columns row) ≡ bounds.is_between columns b row
  same row = lies_between b.firsts b.low b.high (values_at columns row) (bounds_reach columns vars row lines)

  upward : (rows : List (List Datum)) → rows_between columns (low_edge b.firsts b.low) (high_edge b.firsts b.high) rows ≡ filter (bounds.is_between columns b) rows
  upward rows = λ i. filter (λ row. same row i) rows

  pub rows_among : (downward : Bool) (rows : List (List Datum)) → in_walk downward (rows_between columns (low_edge b.firsts b.low) (high_edge b.firsts b.high) rows) ≡ filter (bounds.is_between columns b) (in_walk downward rows)
  rows_among true rows = ap (λ (l : List (List Datum)). reverse l) (upward rows) ∙ filter-reverse (bounds.is_between columns b) rows
  rows_among false rows = upward rows

-- without edges all rows are between them
pub rows_all : (columns : List ℕ) (rows : List (List Datum)) → rows_between columns None None rows ≡ rows
rows_all columns [] = refl
rows_all columns (row ∷ rows) = ap (λ l. row ∷ l) (rows_all columns rows)
