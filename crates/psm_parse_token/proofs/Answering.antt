-- The answer of a parser over a file, from that of its reader.
use Rattle.std.proofs.Common.{◌≡◌, ◌≢◌, ℕ, ◌+◌, ◌-◌, inl, inr, List, [], ◌++◌, length, drop, take, Ok, Err, sym, ap, subst, ◌∙◌, append_assoc, arith}
use Rattle.std.proofs.lemmas.List.{length-append, take-append-drop}
use Rattle.std.proofs.Math.Seq.{drop-append_seam}
use Rattle.psm_token.specs.declared.token.Placed.{Placed}
use Rattle.psm_token.specs.Listed.{Tokens}
use Rattle.psm_grammar.specs.Language.{Lang, toks}
use Rattle.psm_grammar.specs.Readers.{Out}
use Rattle.psm_grammar.specs.Exact.{AtEnd, Holds, Good, Bad, Deep}
use Rattle.psm_grammar.specs.Gives.{Halts}
use Rattle.psm_grammar.specs.declared.halt.Halt.{Halt}
use Rattle.psm_grammar.specs.declared.halt.Halt.TheVariants as halt
use Rattle.psm_tree.specs.Reading.{most_levels, place_of_rest, ReadsAll, ReadsRun}
use Rattle.psm_parse_token.specs.Fault.{place_left, fault_at}

-- the place from which as many tokens are left as rest has
pub place_so : (tokens : Tokens) (before rest : List Placed) → tokens.tokens ≡ before ++ rest → place_left tokens (length rest) ≡ place_of_rest tokens.end rest
place_so tokens before rest e =
    let count : length tokens.tokens - length rest ≡ length before = omega (arith, ap length e, length-append before rest) in
    ap (place_of_rest tokens.end) (ap (λ n. drop n tokens.tokens) count ∙ ap (drop (length before)) e ∙ drop-append_seam before rest)

module _ {X Y : Type 0} (L : Lang Placed Y) (view : X → Y) (tokens : Tokens) where
  -- the tree of all the tokens
  pub all_read : (o : Out Placed Y) → Holds L AtEnd most_levels tokens.tokens o → (x : X) → o ≡ Ok (view x, []) → ReadsAll L view tokens (Ok x)
  all_read o exact x e = subst (Holds L AtEnd most_levels tokens.tokens) e exact

  -- tokens are left after a tree
  pub more_left : (o : Out Placed Y) → Holds L AtEnd most_levels tokens.tokens o → (y : Y) (rest : List Placed) → o ≡ Ok (y, rest) → rest ≢ [] → ReadsAll L view tokens (Err (fault_at tokens (halt.Syntax (length rest))))
  more_left o exact y rest e some =
      let good : Good L AtEnd most_levels tokens.tokens y rest = subst (Holds L AtEnd most_levels tokens.tokens) e exact in
      (rest, record { stop = inl (y, good, some) }, place_so tokens (toks good.front) rest good.parts)

  -- the reader stops
  pub all_halted : (o : Out Placed Y) → Holds L AtEnd most_levels tokens.tokens o → (e : Halt) → Halts e o → ReadsAll L view tokens (Err (fault_at tokens e))
  all_halted o exact (halt.Syntax n) h =
      let bad : Bad L AtEnd most_levels tokens.tokens h.0 = subst (Holds L AtEnd most_levels tokens.tokens) h.1 exact in
      (h.0, record { stop = inr bad }, ap (place_left tokens) h.2 ∙ place_so tokens (toks bad.front) h.0 bad.parts)
  all_halted o exact (halt.Deep n) h =
      let deep : Deep L AtEnd most_levels tokens.tokens h.0 = subst (Holds L AtEnd most_levels tokens.tokens) h.1 exact in
      (h.0, deep, ap (place_left tokens) h.2 ∙ place_so tokens (toks deep.front) h.0 deep.parts)
  all_halted o exact halt.Memory h = tt

  module _ (at : ℕ) (o : Out Placed Y) (exact : Holds L AtEnd most_levels (drop at tokens.tokens) o) where
    after_front : (front rest : List Placed) → drop at tokens.tokens ≡ front ++ rest → tokens.tokens ≡ (take at tokens.tokens ++ front) ++ rest
    after_front front rest e = sym (take-append-drop at tokens.tokens) ∙ ap (λ ts. take at tokens.tokens ++ ts) e ∙ sym (append_assoc (take at tokens.tokens) front rest)

    -- the tree of a run, and the number of the token after it
    pub run_read : (x : X) (n : ℕ) (rest : List Placed) → o ≡ Ok (view x, rest) → n + length rest ≡ length tokens.tokens → ReadsRun L view tokens at (Ok (x, n))
    run_read x n rest e count = (rest, subst (Holds L AtEnd most_levels (drop at tokens.tokens)) e exact, count)

    -- the reader stops in the run
    pub run_halted : (e : Halt) → Halts e o → ReadsRun L view tokens at (Err (fault_at tokens e))
    run_halted (halt.Syntax n) h =
        let bad : Bad L AtEnd most_levels (drop at tokens.tokens) h.0 = subst (Holds L AtEnd most_levels (drop at tokens.tokens)) h.1 exact in
        (h.0, bad, ap (place_left tokens) h.2 ∙ place_so tokens (take at tokens.tokens ++ toks bad.front) h.0 (after_front (toks bad.front) h.0 bad.parts))
    run_halted (halt.Deep n) h =
        let deep : Deep L AtEnd most_levels (drop at tokens.tokens) h.0 = subst (Holds L AtEnd most_levels (drop at tokens.tokens)) h.1 exact in
        (h.0, deep, ap (place_left tokens) h.2 ∙ place_so tokens (take at tokens.tokens ++ toks deep.front) h.0 (after_front (toks deep.front) h.0 deep.parts))
    run_halted halt.Memory h = tt
