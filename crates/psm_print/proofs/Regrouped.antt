-- Lists one after another: what stands before a row of them, as the first of the row.
use Rattle.std.proofs.Common.{◌≡◌, List, ◌++◌, sym, ap, ◌∙◌}
use Rattle.std.proofs.lemmas.List.{append_assoc}

module _ {A : Type 0} where
  pub before2 : (a b c : List A) → a ++ (b ++ c) ≡ a ++ b ++ c
  before2 a b c = sym (append_assoc a b c)

  pub before3 : (a b c d : List A) → a ++ (b ++ c ++ d) ≡ a ++ b ++ c ++ d
  before3 a b c d = before2 a (b ++ c) d ∙ ap (λ l. l ++ d) (before2 a b c)

  pub before4 : (a b c d e : List A) → a ++ (b ++ c ++ d ++ e) ≡ a ++ b ++ c ++ d ++ e
  before4 a b c d e = before2 a (b ++ c ++ d) e ∙ ap (λ l. l ++ e) (before3 a b c d)

  pub before5 : (a b c d e f : List A) → a ++ (b ++ c ++ d ++ e ++ f) ≡ a ++ b ++ c ++ d ++ e ++ f
  before5 a b c d e f = before2 a (b ++ c ++ d ++ e) f ∙ ap (λ l. l ++ f) (before4 a b c d e)

  pub before6 : (a b c d e f g : List A) → a ++ (b ++ c ++ d ++ e ++ f ++ g) ≡ a ++ b ++ c ++ d ++ e ++ f ++ g
  before6 a b c d e f g = before2 a (b ++ c ++ d ++ e ++ f) g ∙ ap (λ l. l ++ g) (before5 a b c d e f)
