-- A text stands for the code of which it is the listing.
use Rattle.std.proofs.Common.{◌≡◌, ℕ, List, [], ◌∷◌, ◌++◌, length, None, Result, Ok, Err, refl, sym, ap, subst, ◌∙◌}
use Rattle.std.proofs.lemmas.List.{append-nil}
use Rattle.psm_code.specs.declared.code.RawCode.{RawCode}
use Rattle.psm_code.specs.RoutineRules.{first_fault}
use Rattle.psm_object.specs.Listing.{lines_of, listing}
use Rattle.psm_object.specs.Words.{text}
use Rattle.psm_load_line.specs.Heads.{EachIs}
use Rattle.psm_load.specs.Due.{lines_in}
use Rattle.psm_load.specs.Listed.{IsListed}
use Rattle.psm_load.specs.Loading.{IsObject}
use Rattle.psm_load.specs.Parts.{At}
use Rattle.psm_load.specs.Stated.{Stated, all_lines, at_start, code, stated, whole}
use Rattle.psm_load.proofs.Following.{Answer, Lines}
use Rattle.psm_load.proofs.Spelling.{moved}
use Rattle.psm_load.proofs.Texts.{lines_of_text, none_empty, text_of_lines}
use Rattle.psm_load.proofs.UnbrokenLines.{code_are_lines}
use Rattle.psm_load.proofs.UnbrokenWords.{IsLine}
use Rattle.psm_load.proofs.WrittenCode.{code_again, code_of, code_said, code_says, spells_code}

pub stated_again : (c : RawCode) → IsListed c → stated (listing c) ≡ Ok (record { code = c; odd = None })
stated_again c v =
    let t = code_again c v in
    let lines = code_says t.0 in
    let read : code at_start (lines_of c) ≡ Ok (code_of t.0, (moved at_start (length lines), [])) = ap (code at_start) (t.2 ∙ sym (append-nil lines)) ∙ spells_code.again at_start t.0 [] in
    ap (λ (x : Lines × List ℕ). whole (code at_start (all_lines x.0 x.1))) (lines_of_text (lines_of c) (code_are_lines c v)) ∙ ap whole read ∙ ap (λ d. Ok (record { code = d; odd = None })) (sym t.1)

-- what is read of all lines
record Whole (r : Answer RawCode) (s : Stated) : Type 0 where
  at : At
  read : r ≡ Ok (s.code, (at, []))
  odd : at.odd ≡ s.odd

abbrev pub answered : Stated → Result Stated ℕ
answered s = Ok s

pub same_stated : (s t : Stated) → answered s ≡ answered t → s ≡ t
same_stated s t e = cc

whole_ok : (r : Answer RawCode) (s : Stated) → whole r ≡ Ok s → Whole r s
whole_ok (Err n) s e = absurd (cc)
whole_ok (Ok (c, (at, []))) s e = subst (λ u. Whole (Ok (c, (at, []))) u) (same_stated (record { code = c; odd = at.odd }) s e) (record { at = at; read = refl; odd = refl })
whole_ok (Ok (c, (at, l ∷ ls))) s e = absurd (cc)

pub stated_takes : (s : List ℕ) (st : Stated) → stated s ≡ Ok st → st.odd ≡ None → first_fault st.code ≡ None → IsObject s st.code
stated_takes s st e odd fault = by (lines_in s).0 (lines_in s).1 (text_of_lines s) e where
  listed : (ls : Lines) → whole (code at_start ls) ≡ Ok st → (ls ≡ lines_of st.code) × IsListed st.code
  listed ls e =
      let w = whole_ok (code at_start ls) st e in
      let k = spells_code.takes at_start ls st.code w.at [] w.read (w.odd ∙ odd) in
      let c = code_said k.1 (ap first_fault (sym k.2) ∙ fault) in
      (k.3 ∙ append-nil (code_says k.1) ∙ c.0 ∙ ap lines_of (sym k.2), subst IsListed (sym k.2) c.1)

  by : (ls : Lines) (unfinished : List ℕ) → s ≡ text ls ++ unfinished → whole (code at_start (all_lines ls unfinished)) ≡ Ok st → IsObject s st.code
  by ls [] h e = let k = listed ls e in record { text_is = h ∙ append-nil (text ls) ∙ ap text k.0; listed = k.1; well_formed = fault }
  by ls (c ∷ rest) h e = let k = listed (ls ++ [] ∷ []) e in absurd (none_empty ls (subst (λ ms. EachIs IsLine ms) (sym k.0) (code_are_lines st.code k.1)))
