-- What is expected of a call, by what its fetches give.
use Rattle.std.proofs.Common.{◌≡◌, ℕ, ◌<◌, ◌≤◌, List, length, Option, Some, None, refl, sym, ap, ◌∙◌, subst, inl, inr, arith}
use Rattle.std.specs.Prelude.{◌⊎◌}
use Rattle.psm_files.specs.Answer.{Stayed}
use Rattle.psm_files.specs.Expected.{Expected}
use Rattle.psm_files.specs.Fetches.{Fetches, AreHeld, most_bytes}
use Rattle.psm_files.specs.Given.{ForFile, Given, as_fetched, as_held}

-- ---- what is expected for the bytes may be said in weaker terms

pub for_file_weaker : (given : Given) (name : List ℕ) (For For' : List ℕ → Expected → Type 0) → ((bytes : List ℕ) (e : Expected) → For bytes e → For' bytes e) → (e : Expected) → ForFile given name For e → ForFile given name For' e
for_file_weaker given name For For' weaker e (inl h) = inl h
for_file_weaker given name For For' weaker e (inr (inl h)) = inr (inl h)
for_file_weaker given name For For' weaker e (inr (inr h)) = inr (inr (record { bytes = h.bytes; gives = h.gives; short = h.short; for_bytes = weaker h.bytes e h.for_bytes }))

-- ---- what was fetched is what the shelf holds

held_same : (contents : Option (List ℕ)) (bytes held : List ℕ) → contents ≡ Some held → AreHeld contents bytes → held ≡ bytes
held_same None bytes held e h = absurd cc
held_same (Some x) bytes held e h = let p : held ≡ x = cc in p ∙ h

not_both : (n : ℕ) → n ≤ most_bytes → most_bytes < n → ⊥
not_both n h k = omega arith

-- so what is expected has the status that is expected for what the shelf holds, if it has for the bytes of the file
pub for_file_same : (fetches : Fetches) (name : List ℕ) → Stayed (fetches.before name) (fetches.after name) → (For ForHeld : List ℕ → Expected → Type 0)
    → ((bytes : List ℕ) (e d : Expected) → For bytes e → ForHeld bytes d → e.status ≡ d.status)
    → (e d : Expected) → ForFile (as_fetched fetches) name For e → ForFile (as_held fetches.held) name ForHeld d → e.status ≡ d.status
for_file_same fetches name stayed For ForHeld same e d (inl h) k = absurd (stayed h.fails.rose)
for_file_same fetches name stayed For ForHeld same e d (inr h) (inl k) = absurd k.fails
for_file_same fetches name stayed For ForHeld same e d (inr (inl h)) (inr (inl k)) = ap (λ (x : Expected). x.status) (h.expected_is ∙ sym k.expected_is)
for_file_same fetches name stayed For ForHeld same e d (inr (inl h)) (inr (inr k)) =
    let b : k.bytes ≡ h.bytes = held_same (fetches.held name) h.bytes k.bytes k.gives h.gives in
    absurd (not_both (length h.bytes) (subst (λ (x : List ℕ). length x ≤ most_bytes) b k.short) h.long)
for_file_same fetches name stayed For ForHeld same e d (inr (inr h)) (inr (inl k)) =
    let b : k.bytes ≡ h.bytes = held_same (fetches.held name) h.bytes k.bytes k.gives h.gives in
    absurd (not_both (length h.bytes) h.short (subst (λ (x : List ℕ). most_bytes < length x) b k.long))
for_file_same fetches name stayed For ForHeld same e d (inr (inr h)) (inr (inr k)) =
    let b : k.bytes ≡ h.bytes = held_same (fetches.held name) h.bytes k.bytes k.gives h.gives in
    same h.bytes e d h.for_bytes (subst (λ (x : List ℕ). ForHeld x d) b k.for_bytes)
