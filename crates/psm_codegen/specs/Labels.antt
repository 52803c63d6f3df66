-- Lines in place of labels in all that a routine has: a context names a label where it is left.
use Rattle.std.specs.Prelude.{ℕ, List, map, slice_get, Option, Some, None}
use Rattle.psm_cond.specs.declared.handlers.Context.{Context}
use Rattle.psm_cond.specs.declared.handlers.ContextKind.{ContextKind}
use Rattle.psm_cond.specs.declared.handlers.ContextKind.TheVariants as kinds
use Rattle.psm_exprgen.specs.Labels.{Draft, patched}
use Rattle.psm_codegen.specs.declared.enclosing.EnclosingBlock.{EnclosingBlock}
use Rattle.psm_codegen.specs.declared.enclosing.EnclosingBlock.TheVariants.{Loop, Block as WithinBlock, Rows}
use Rattle.psm_codegen.specs.FunctionBuilder.{FunctionBuilder}

-- the line to which a label is bound, or 0
abbrev pub line_or : Option (Option ℕ) → ℕ
line_or None = 0
line_or (Some None) = 0
line_or (Some (Some line)) = line

abbrev pub line_of : List (Option ℕ) → ℕ → ℕ
line_of labels label = line_or (slice_get labels label)

-- ---- lines in place of labels

abbrev pub patched_kind : (ℕ → ℕ) → ContextKind → ContextKind
patched_kind σ (kinds.Block b) = kinds.Block (record b { exit = σ b.exit })
patched_kind σ (kinds.Action handler) = kinds.Action handler

abbrev pub patched_context : (ℕ → ℕ) → Context → Context
patched_context σ c = record { parent = c.parent; kind = patched_kind σ c.kind }

abbrev pub patched_parts : (ℕ → ℕ) → FunctionBuilder → FunctionBuilder
patched_parts σ p = record p { code = patched σ p.code; contexts = map (patched_context σ) p.contexts }

-- what LEAVE and ITERATE can name
abbrev pub patched_block : (ℕ → ℕ) → EnclosingBlock → EnclosingBlock
patched_block σ (Loop level out again) = Loop level (σ out) (σ again)
patched_block σ (WithinBlock level context outer exit) = WithinBlock level context outer (σ exit)
patched_block σ (Rows context outer) = Rows context outer

-- ---- what is written with labels, of all that a routine has

abbrev pub DraftedParts : ((ℕ → ℕ) → FunctionBuilder → FunctionBuilder → Type 0) → FunctionBuilder → FunctionBuilder → Type 0
DraftedParts R p q = Draft (λ u. u.code.labels) patched_parts R p q
