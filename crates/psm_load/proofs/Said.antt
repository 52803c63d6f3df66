-- What a line says, as a part.
use Rattle.std.proofs.Common.{◌≡◌, ℕ, Option, Some, None, option_map, Result, Ok, Err, refl, sym, ap, subst, ◌∙◌}
use Rattle.psm_load_line.specs.Readers.{LineReader}
use Rattle.psm_load_line.specs.Said.{Reads}
use Rattle.psm_load.specs.Parts.{one, taken}
use Rattle.psm_load.specs.Left.{Left, Gives, GivesAs, Takes, placed}
use Rattle.psm_load.specs.Read.{says}
use Rattle.psm_load.specs.declared.left.NumberedLine.{NumberedLine}
use Rattle.psm_load.specs.declared.stop.Stop.{Stop}
use Rattle.psm_load_line.specs.declared.fault.Unread.{Unread}
use Rattle.psm_load_line.specs.declared.fault.Unread.TheVariants.{Misfit, Memory}

one_taken : {A : Type 0} (read : LineReader A) (old new : Left) (line : NumberedLine) → Takes old new line → one read old.at old.lines ≡ taken old.at (λ a. None) new.lines (read line.bytes.now)
one_taken read old new line t = ap (one read old.at) t.lines

read_ok : {A : Type 0} (read : LineReader A) (old new : Left) (line : NumberedLine) (a : A) → Takes old new line → read line.bytes.now ≡ Some a → one read old.at old.lines ≡ Ok (a, (new.at, new.lines))
read_ok read old new line a t e = one_taken read old new line t ∙ ap (taken old.at (λ a. None) new.lines) e ∙ ap (λ at. Ok (a, (at, new.lines))) (sym t.at)

read_err : {A : Type 0} (read : LineReader A) (old new : Left) (line : NumberedLine) → Takes old new line → read line.bytes.now ≡ None → one read old.at old.lines ≡ Err line.number
read_err read old new line t e = one_taken read old new line t ∙ ap (taken old.at (λ a. None) new.lines) e ∙ ap Err (sym t.number)

-- a line is read
pub line_said : {A : Type 0} (read : LineReader A) (old new : Left) (line : NumberedLine) (r : Result A Unread) (out : Result A Stop) → Takes old new line → Reads (read line.bytes.now) r → out ≡ placed line.number r
    → Gives (one read) old new out
line_said {A} read old new line r out t h e = subst (Gives (one read) old new) (sym e) (by r h)
  where
    by : (r : Result A Unread) → Reads (read line.bytes.now) r → Gives (one read) old new (placed line.number r)
    by (Ok a) h = read_ok read old new line a t h
    by (Err Misfit) h = read_err read old new line t h
    by (Err Memory) h = tt

mapped_some : {A B : Type 0} (f : A → B) (o : Option A) (b : B) → option_map f o ≡ Some b → (a : A) × (o ≡ Some a) × (f a ≡ b)
mapped_some f None b e = absurd (cc e)
mapped_some f (Some a) b e = (a, refl, cc)

mapped_none : {A B : Type 0} (f : A → B) (o : Option A) → option_map f o ≡ None → o ≡ None
mapped_none f None e = refl
mapped_none f (Some a) e = absurd (cc e)

says_ok : {A B : Type 0} (f : A → B) (read : LineReader A) (old new : Left) (a : A) (b : B) → one read old.at old.lines ≡ Ok (a, (new.at, new.lines)) → f a ≡ b → says f read old.at old.lines ≡ Ok (b, (new.at, new.lines))
says_ok f read old new a b e h = rw e (ap (λ b. Ok (b, (new.at, new.lines))) h)

says_err : {A B : Type 0} (f : A → B) (read : LineReader A) (old : Left) (n : ℕ) → one read old.at old.lines ≡ Err n → says f read old.at old.lines ≡ Err n
says_err f read old n e = rw e refl

-- a line is read as what it says is kept
pub line_said_as : {A B : Type 0} (f : A → B) (read : LineReader A) (old new : Left) (line : NumberedLine) (r : Result B Unread) (out : Result B Stop) → Takes old new line → Reads (option_map f (read line.bytes.now)) r → out ≡ placed line.number r
    → Gives (says f read) old new out
line_said_as {A} {B} f read old new line r out t h e = subst (Gives (says f read) old new) (sym e) (by r h)
  where
    by : (r : Result B Unread) → Reads (option_map f (read line.bytes.now)) r → Gives (says f read) old new (placed line.number r)
    by (Ok b) h = let m = mapped_some f (read line.bytes.now) b h in says_ok f read old new m.0 b (read_ok read old new line m.0 t m.1) m.2
    by (Err Misfit) h = says_err f read old line.number (read_err read old new line t (mapped_none f (read line.bytes.now) h))
    by (Err Memory) h = tt

-- a line is read whose words can be found from what is kept
pub line_seen : {A B : Type 0} (f : A → B) (view : B → A) (read : LineReader A) (old new : Left) (line : NumberedLine) (r : Result B Unread) (out : Result B Stop)
    → ((a : A) → view (f a) ≡ a) → Takes old new line → Reads (option_map f (read line.bytes.now)) r → out ≡ placed line.number r → GivesAs view (one read) old new out
line_seen {A} {B} f view read old new line r out v t h e = subst (GivesAs view (one read) old new) (sym e) (by r h)
  where
    by : (r : Result B Unread) → Reads (option_map f (read line.bytes.now)) r → GivesAs view (one read) old new (placed line.number r)
    by (Ok b) h = let m = mapped_some f (read line.bytes.now) b h in
        read_ok read old new line m.0 t m.1 ∙ ap (λ a. Ok (a, (new.at, new.lines))) (sym (v m.0) ∙ ap view m.2)
    by (Err Misfit) h = read_err read old new line t (mapped_none f (read line.bytes.now) h)
    by (Err Memory) h = tt

pub ruleset said = (line_said, line_said_as)
