-- Characters of texts in UTF-8.
use Rattle.std.proofs.Common.{◌≡◌, ℕ, List, [], ◌∷◌, ◌++◌, ◌<◌, ◌≤◌, length, take, sym, ap, subst, ◌∙◌, arith}
use Rattle.std.specs.Prelude.{Result, Ok, Err, OnOk, is_ok, if◌then◌else◌}
use Rattle.std.specs.Char.{IsScalar, encode_utf8}
use Rattle.std.specs.Str.{IsUtf8, chars}
use Rattle.std.proofs.lemmas.List.{append-nil, take_all}
use Rattle.std.proofs.lemmas.Str.{chars-append, chars_past_char, chars-nil, IsUtf8-encode, length-le-encodes, encodes-chars}
use Rattle.psm_token.specs.Places.{HasRoom, start, place_after}

-- a text with a character more
pub pushed : (bs : List ℕ) (c : ℕ) → IsUtf8 bs → IsScalar c → chars (bs ++ encode_utf8 c) ≡ chars bs ++ c ∷ []
pushed bs c u s =
    let one : chars (encode_utf8 c) ≡ c ∷ [] =
    chars_past_char (encode_utf8 c) [] c (IsUtf8-encode c s) (sym (append-nil (encode_utf8 c))) ∙ ap (λ (r : List ℕ). c ∷ r) chars-nil in
    chars-append bs (encode_utf8 c) u ∙ ap (λ (r : List ℕ). chars bs ++ r) one

pub pushed_ok : {E : Type 0} (r : Result (Unit {0}) E) (bs ds : List ℕ) (c : ℕ) → ds ≡ (if is_ok r then bs ++ encode_utf8 c else bs) → IsUtf8 bs → IsScalar c
    → OnOk r (chars ds ≡ chars bs ++ c ∷ [])
pushed_ok (Ok x) bs ds c e u s = ap chars e ∙ pushed bs c u s
pushed_ok (Err x) bs ds c e u s = tt

pub chars_none : (bs : List ℕ) → bs ≡ [] → chars bs ≡ []
chars_none bs e = ap chars e ∙ chars-nil

pub chars_within : (bs : List ℕ) → IsUtf8 bs → length (chars bs) ≤ length bs
chars_within bs u = let h = length-le-encodes (chars bs) in omega (arith, h, ap length (encodes-chars bs u))

-- there is room for the characters of a file from its first place on
pub start_room : (bs : List ℕ) (n : ℕ) → IsUtf8 bs → length bs ≤ n → n < 4294967295 → HasRoom start (chars bs)
start_room bs n u l h = let k = chars_within bs u in record { lines = omega arith; columns = omega arith }

pub start_room_of : (cs bs : List ℕ) (n : ℕ) → cs ≡ bs → IsUtf8 bs → length bs ≤ n → n < 4294967295 → HasRoom start (chars cs)
start_room_of cs bs n e u l h = subst (λ (x : List ℕ). HasRoom start (chars x)) (sym e) (start_room bs n u l h)

-- the place after as many characters as there are bytes
pub place_all : (cs bs : List ℕ) (n : ℕ) → cs ≡ bs → IsUtf8 bs → length bs ≤ n → place_after (take n (chars cs)) start ≡ place_after (chars bs) start
place_all cs bs n e u l =
    let k : length (chars bs) ≤ n = omega (arith, chars_within bs u) in
    ap (λ (x : List ℕ). place_after (take n (chars x)) start) e ∙ ap (λ (x : List ℕ). place_after x start) (take_all n (chars bs) k)
