-- From row to row there may still be fewer rows.
use Rattle.std.proofs.Common.{◌≡◌, ℕ, zero, suc, ◌+◌, ◌*◌, ◌<◌, ◌≤◌, List, [], ◌∷◌, length, slice_get, refl, ap, ◌∙◌, arith, Option, Some, None, mul-le-mul_right, suc-mul}
use Rattle.psm_code.specs.declared.code.RawCode.{RawCode}
use Rattle.psm_code.specs.declared.code.RawRoutine.{RawRoutine}
use Rattle.psm_code.specs.Parts.{line_at, routine_at}
use Rattle.psm_termination.specs.Measure.{Falls, Shape, all_lines, by_depth, by_lines, by_turns, depth, lines, lines_in, steps_at_most}
use Rattle.psm_termination.proofs.Falling.{from_most}

-- a digit before others
higher : (a b w x y : ℕ) → a < b → x < w → a * w + x < b * w + y
higher a b w x y h k = let next : suc a ≤ b = omega (arith, h) in omega (arith, mul-le-mul_right w next, suc-mul a w, k)

one_of_all : (routines : List RawRoutine) (n : ℕ) (r : RawRoutine) → slice_get routines n ≡ Some r → length r.lines ≤ all_lines routines
one_of_all [] n r e = absurd cc
one_of_all (q ∷ routines) zero r e = let same : q ≡ r = cc in let many : length q.lines ≡ length r.lines = ap (λ (x : RawRoutine). length x.lines) same in omega (arith, many)
one_of_all (q ∷ routines) (suc n) r e = let most = one_of_all routines n r e in omega (arith, most)

lines_most : (code : RawCode) (s : Shape) → lines code s ≤ all_lines code.routines
lines_most code s = by (routine_at code s.routine) refl where
  by : (o : Option RawRoutine) → routine_at code s.routine ≡ o → lines_in o s.line ≤ all_lines code.routines
  by None e = omega arith
  by (Some r) e = let here = from_most r s.line (line_at r s.line) in let most = one_of_all code.routines s.routine r e in omega (arith, here, most)

pub fewer_steps : (code : RawCode) (s t : Shape) → Falls code s t → steps_at_most code t < steps_at_most code s
fewer_steps code s t (by_turns a b) =
    let most = lines_most code t in
    higher (t.turns + t.turns + depth t) (s.turns + s.turns + depth s) (suc (all_lines code.routines)) (lines code t) (lines code s) (omega (arith, a, b)) (omega (arith, most))
fewer_steps code s t (by_depth a b) =
    let most = lines_most code t in
    higher (t.turns + t.turns + depth t) (s.turns + s.turns + depth s) (suc (all_lines code.routines)) (lines code t) (lines code s) (omega (arith, a, b)) (omega (arith, most))
fewer_steps code s t (by_lines a b c) =
    let same : (t.turns + t.turns + depth t) * suc (all_lines code.routines) ≡ (s.turns + s.turns + depth s) * suc (all_lines code.routines) = ap (λ n. n * suc (all_lines code.routines)) (ap (λ n. n + n + depth t) a ∙ ap (λ d. s.turns + s.turns + d) b) in
    omega (arith, same, c)
