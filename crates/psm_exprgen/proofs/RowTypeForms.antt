-- Which row expression each form of expression is, from its parts.
use Rattle.psm_resolved.proofs.Equations.{row_type-Null, row_type-Number, row_type-Text, row_type-Column, row_type-Variable, row_type-LogicalOperator, row_type-Not, row_type-Compare, row_type-IsNull, row_type-Between, row_type-In, row_type-Like, row_type-OperatorChain, row_type-Negated, row_type-Call, row_type-Scalar, row_type-Exists, row_type-Case, row_type-Coalesce, row_type-Cast, row_type-NullIf, row_type-Function, row_type-Position, row_type-Substring, row_type-Trim, row_type_of_chain_link, row_type_of_when}

pub ruleset row_type_forms = (row_type-Null, row_type-Number, row_type-Text, row_type-Column, row_type-Variable, row_type-LogicalOperator, row_type-Not, row_type-Compare, row_type-IsNull, row_type-Between, row_type-In, row_type-Like, row_type-OperatorChain, row_type-Negated, row_type-Call, row_type-Scalar, row_type-Exists, row_type-Case, row_type-Coalesce, row_type-Cast, row_type-NullIf, row_type-Function, row_type-Position, row_type-Substring, row_type-Trim)

pub ruleset row_type_parts = (row_type_of_chain_link, row_type_of_when)
