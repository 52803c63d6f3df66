-- One character more of those that a loop counts.
use Rattle.std.proofs.Common.{◌≡◌, ℕ, zero, suc, ◌+◌, ◌-◌, ◌<◌, Bool, true, false, cond, eqb, List, [], ◌∷◌, ◌++◌, length, take, drop, refl, sym, ap, subst, ◌∙◌, append_assoc, arith}
use Rattle.std.proofs.lemmas.List.{drop-drop}
use Rattle.std.specs.Char.{to_ascii_uppercase}
use Rattle.psm_token.specs.Forms.{folded}
use Rattle.psm_token.specs.Places.{place_after}
use Rattle.psm_token.specs.declared.place.Place.{Place}
use Rattle.psm_token.specs.Places.{HasRoom, next_place}

pub take_next : (n i c : ℕ) (cs ds : List ℕ) → i < n → ds ≡ c ∷ cs → take (n - i) ds ≡ c ∷ take (n - (i + 1)) cs
take_next n i c cs ds h e =
    let k : n - i ≡ suc (n - (i + 1)) = omega arith in
    ap (λ j. take j ds) k ∙ ap (λ (l : List ℕ). take (suc (n - (i + 1))) l) e

pub drop_next : (n i c : ℕ) (cs ds : List ℕ) → i < n → ds ≡ c ∷ cs → drop (n - i) ds ≡ drop (n - (i + 1)) cs
drop_next n i c cs ds h e =
    let k : n - i ≡ suc (n - (i + 1)) = omega arith in
    ap (λ j. drop j ds) k ∙ ap (λ (l : List ℕ). drop (suc (n - (i + 1))) l) e

pub take_past : (n : ℕ) (cs : List ℕ) → cs ≡ [] → take n cs ≡ []
take_past zero cs e = refl
take_past (suc n) cs e = ap (λ (l : List ℕ). take (suc n) l) e

pub drop_past : (n : ℕ) (cs : List ℕ) → cs ≡ [] → drop n cs ≡ []
drop_past zero cs e = e
drop_past (suc n) cs e = ap (λ (l : List ℕ). drop (suc n) l) e

-- a place further, there is room for a character less
pub room_next : (p : Place) (c : ℕ) (cs ds : List ℕ) → ds ≡ c ∷ cs → HasRoom p ds → HasRoom (next_place c p) cs
room_next p c cs ds e h =
    let n : length ds ≡ suc (length cs) = ap length e in
    by (eqb c 10) n
  where
    by : (b : Bool) → length ds ≡ suc (length cs) → HasRoom (cond b (record { line = p.line + 1; column = 1 }) (record { line = p.line; column = p.column + 1 })) cs
    by true n = record { lines = omega (arith, n, h.lines); columns = omega (arith, n, h.columns) }
    by false n = record { lines = omega (arith, n, h.lines); columns = omega (arith, n, h.columns) }

pub drop_one_more : (cs ds : List ℕ) (n c : ℕ) → drop n cs ≡ c ∷ ds → drop (n + 1) cs ≡ ds
drop_one_more cs ds n c e = sym (drop-drop 1 n cs) ∙ ap (drop 1) e

pub gather_next : (text after all cs ds : List ℕ) (c n i : ℕ) → i < n → ds ≡ c ∷ cs → after ≡ text ++ c ∷ [] → text ++ take (n - i) ds ≡ all → after ++ take (n - (i + 1)) cs ≡ all
gather_next text after all cs ds c n i l e k h =
    ap (λ (t : List ℕ). t ++ take (n - (i + 1)) cs) k ∙ append_assoc text (c ∷ []) (take (n - (i + 1)) cs)
    ∙ ap (λ (t : List ℕ). text ++ t) (sym (take_next n i c cs ds l e)) ∙ h

pub fold_next : (text after all cs ds : List ℕ) (c d n i : ℕ) → i < n → ds ≡ c ∷ cs → d ≡ to_ascii_uppercase c → after ≡ text ++ d ∷ [] → text ++ folded (take (n - i) ds) ≡ all
    → after ++ folded (take (n - (i + 1)) cs) ≡ all
fold_next text after all cs ds c d n i l e u k h =
    ap (λ (t : List ℕ). t ++ folded (take (n - (i + 1)) cs)) k ∙ append_assoc text (d ∷ []) (folded (take (n - (i + 1)) cs))
    ∙ ap (λ (x : ℕ). text ++ x ∷ folded (take (n - (i + 1)) cs)) u ∙ ap (λ (t : List ℕ). text ++ folded t) (sym (take_next n i c cs ds l e)) ∙ h

pub place_next : (n i c : ℕ) (p q : Place) (cs ds : List ℕ) → i < n → ds ≡ c ∷ cs → q ≡ next_place c p → place_after (take (n - (i + 1)) cs) q ≡ place_after (take (n - i) ds) p
place_next n i c p q cs ds l e k =
    ap (λ (x : Place). place_after (take (n - (i + 1)) cs) x) k ∙ ap (λ (t : List ℕ). place_after t p) (sym (take_next n i c cs ds l e))

pub room_here : (p : Place) (c : ℕ) (cs ds : List ℕ) → ds ≡ c ∷ cs → HasRoom p ds → (p.line < 4294967295) × (p.column < 4294967295)
room_here p c cs ds e h =
    let n : length ds ≡ suc (length cs) = ap length e in
    (omega (arith, n, h.lines), omega (arith, n, h.columns))

pub room_at : (p q : Place) (c : ℕ) (cs ds : List ℕ) → q ≡ next_place c p → ds ≡ c ∷ cs → HasRoom p ds → HasRoom q cs
room_at p q c cs ds k e h = subst (λ (x : Place). HasRoom x cs) (sym k) (room_next p c cs ds e h)
