-- The instructions by what follows their mnemonics are those of the format.
use Rattle.std.proofs.Common.{◌≡◌, ℕ, Bool, true, false, List, [], ◌∷◌, ◌++◌, length, map, Option, Some, None, refl, sym, ap, subst, ◌∙◌, arith}
use Rattle.std.specs.Prelude.{codes, if◌then◌else◌, is_some, nat_eq, option_map}
use Rattle.std.specs.Cmp.Lexicographic.{pointwise, same_text}
use Rattle.psm_exprcode.specs.declared.op.Op.{Op}
use Rattle.psm_exprcode.specs.declared.op.Op.TheVariants as op
use Rattle.psm_code.specs.declared.instruction.Instruction.{Instruction}
use Rattle.psm_code.specs.declared.instruction.Instruction.TheVariants as instruction
use Rattle.psm_words.specs.Reading.{◌>>=◌, after}
use Rattle.psm_words.proofs.Several.{some_is}
use Rattle.psm_load_line.specs.Groups.{alone_control, alone_instructions, alone_operations, as_instruction, detailed_instructions, followed_instructions, grouped_instructions, instruction_at, numbered_instructions, said, textless_instructions, when_alone, when_numbered}
use Rattle.psm_load_line.specs.Heads.{EachIs}
use Rattle.psm_load_line.specs.InstructionForms.{instructions, numbered, of_operation}
use Rattle.psm_load_line.specs.OperationForms.{constant_at}
use Rattle.psm_load_line.specs.Readers.{alone, bare, chosen, index_at, last, made, word, LineReader}
use Rattle.psm_load_line.specs.Taken.{NoText}
use Rattle.psm_load_line.proofs.Entries.{no_word, none_chosen, word_said}
use Rattle.psm_load_line.proofs.Spelled.{◌&◌}

-- what holds of each entry of a table holds of the one that is chosen
chosen_has : {A : Type 0} (P : List ℕ × A → Type 0) (entries : List (List ℕ × A)) (w : List ℕ) (a : A) → EachIs P entries → chosen entries w ≡ Some a → P (w, a)
chosen_has P [] w a t e = absurd cc
chosen_has {A} P (entry ∷ entries) w a t e = by (pointwise nat_eq entry.0 w) refl (λ f. chosen_has P entries w a t.1 f) e where
  by : (b : Bool) → pointwise nat_eq entry.0 w ≡ b → (chosen entries w ≡ Some a → P (w, a)) → (if b then Some entry.1 else chosen entries w) ≡ Some a → P (w, a)
  by true q more e = subst (λ (u : List ℕ). P (u, a)) (same_text entry.0 w (sym q)) (subst (λ (x : A). P (entry.0, x)) (some_is entry.1 a e) t.0)
  by false q more e = more e

-- ---- tables with the same entries in another order

-- what a line says after the word of an entry is what the entry says
abbrev IsIn : {A : Type 0} → List (List ℕ × LineReader A) → List ℕ × LineReader A → Type 0
IsIn entries entry = (s : List ℕ) → said entries entry.0 s ≡ entry.1 s

abbrev Has : {A : Type 0} → List (List ℕ × LineReader A) → List ℕ × LineReader A → Type 0
Has entries entry = is_some (chosen entries entry.0) ≡ true

same_said : {A : Type 0} (one other : List (List ℕ × LineReader A)) (w s : List ℕ) → EachIs (IsIn other) one → EachIs (Has one) other → said other w s ≡ said one w s
same_said {A} one other w s there back = by (chosen one w) refl (chosen other w) refl where
  by : (o : Option (LineReader A)) → chosen one w ≡ o → (u : Option (LineReader A)) → chosen other w ≡ u → said other w s ≡ said one w s
  by (Some p) e u f = chosen_has (IsIn other) one w p there e s ∙ sym (ap (λ (o : Option (LineReader A)). o >>= λ q. q s) e)
  by None e None f = ap (λ (o : Option (LineReader A)). o >>= λ q. q s) (f ∙ sym e)
  by None e (Some p) f = let found : is_some (chosen one w) ≡ true = chosen_has (Has one) other w p back f in absurd (cc (found, e))

made_alone : {B C : Type 0} (f : B → C) (b : B) (s : List ℕ) → made f (alone b) s ≡ alone (f b) s
made_alone f b [] = refl
made_alone f b (c ∷ s) = refl

made_made : {A B C : Type 0} (f : B → C) (g : A → B) (p : LineReader A) (s : List ℕ) → made f (made g p) s ≡ made (λ a. f (g a)) p s
made_made {A} {B} {C} f g p s = by (p s) where
  by : (o : Option A) → ((o >>= λ a. Some (g a)) >>= λ b. Some (f b)) ≡ (o >>= λ a. Some (f (g a)))
  by None = refl
  by (Some a) = refl

there : EachIs (IsIn instructions) grouped_instructions
unfolding grouped_instructions textless_instructions followed_instructions detailed_instructions numbered_instructions alone_instructions alone_operations alone_control
there =
    (λ s. refl) &
    made_alone instruction.Operation op.Duplicate &
    made_alone instruction.Operation op.Drop &
    made_alone instruction.Operation op.DropBelow &
    made_alone instruction.Operation op.Negate &
    made_alone instruction.Operation op.Add &
    made_alone instruction.Operation op.Subtract &
    made_alone instruction.Operation op.Multiply &
    made_alone instruction.Operation op.Divide &
    made_alone instruction.Operation op.Concatenate &
    made_alone instruction.Operation op.CharacterLength &
    made_alone instruction.Operation op.Position &
    made_alone instruction.Operation op.SubstringFrom &
    made_alone instruction.Operation op.SubstringFromFor &
    made_alone instruction.Operation op.Upper &
    made_alone instruction.Operation op.Lower &
    made_alone instruction.Operation op.Equal &
    made_alone instruction.Operation op.NotEqual &
    made_alone instruction.Operation op.Less &
    made_alone instruction.Operation op.LessOrEqual &
    made_alone instruction.Operation op.Greater &
    made_alone instruction.Operation op.GreaterOrEqual &
    made_alone instruction.Operation op.And &
    made_alone instruction.Operation op.Or &
    made_alone instruction.Operation op.Not &
    made_alone instruction.Operation op.IsNull &
    made_alone instruction.Operation op.Like &
    made_alone instruction.Operation op.LikeEscape &
    made_alone instruction.Operation op.Between &
    made_alone instruction.Operation op.NullIf &
    (λ s. refl) & (λ s. refl) & (λ s. refl) & (λ s. refl) & (λ s. refl) & (λ s. refl) & (λ s. refl) & (λ s. refl) & (λ s. refl) & (λ s. refl) &
    (λ s. refl) & (λ s. refl) & (λ s. refl) & (λ s. refl) & (λ s. refl) & (λ s. refl) &
    made_made instruction.Operation op.Variable (last (word index_at)) &
    made_made instruction.Operation op.Column (last (word index_at)) &
    made_made instruction.Operation op.In (last (word index_at)) &
    made_made instruction.Operation op.Jump (last (word index_at)) &
    made_made instruction.Operation op.JumpUnlessTrue (last (word index_at)) &
    made_made instruction.Operation op.JumpUnlessNull (last (word index_at)) &
    (λ s. refl) & (λ s. refl) & (λ s. refl) & (λ s. refl) & (λ s. refl) & (λ s. refl) & (λ s. refl) & (λ s. refl) & (λ s. refl) & (λ s. refl) &
    (λ s. refl) & (λ s. refl) & (λ s. refl) & (λ s. refl) & (λ s. refl) & (λ s. refl) & (λ s. refl) & (λ s. refl) &
    tt

back : EachIs (Has grouped_instructions) instructions
unfolding grouped_instructions textless_instructions followed_instructions detailed_instructions numbered_instructions alone_instructions alone_operations alone_control
back =
    refl & refl & refl & refl & refl & refl & refl & refl & refl & refl & refl & refl & refl & refl & refl & refl & refl & refl & refl & refl & refl & refl & refl & refl &
    refl & refl & refl & refl & refl & refl & refl & refl & refl & refl & refl & refl & refl & refl & refl & refl & refl & refl & refl & refl & refl & refl & refl & refl &
    refl & refl & refl & refl & refl & refl & refl & refl & refl & refl & refl & refl & refl & refl & refl & refl & refl & refl & refl & refl & refl & refl &
    tt

pub grouped : (w s : List ℕ) → said instructions w s ≡ said grouped_instructions w s
grouped w s = same_said grouped_instructions instructions w s there back

-- ---- the groups

alone_said : (entries : List (List ℕ × Instruction)) (others : List (List ℕ × LineReader Instruction)) (w s : List ℕ) (i : Instruction) → chosen entries w ≡ Some i → said (map when_alone entries ++ others) w s ≡ alone i s
alone_said [] others w s i e = absurd cc
alone_said (entry ∷ entries) others w s i e = by (pointwise nat_eq entry.0 w) (λ f. alone_said entries others w s i f) e where
  by : (b : Bool) → (chosen entries w ≡ Some i → said (map when_alone entries ++ others) w s ≡ alone i s) → (if b then Some entry.1 else chosen entries w) ≡ Some i
      → ((if b then Some (alone entry.1) else chosen (map when_alone entries ++ others) w) >>= λ p. p s) ≡ alone i s
  by true more e = ap (λ j. alone j s) (some_is entry.1 i e)
  by false more e = more e

none_alone : (entries : List (List ℕ × Instruction)) (others : List (List ℕ × LineReader Instruction)) (w s : List ℕ) → chosen entries w ≡ None → said (map when_alone entries ++ others) w s ≡ said others w s
none_alone [] others w s e = refl
none_alone (entry ∷ entries) others w s e = by (pointwise nat_eq entry.0 w) (λ f. none_alone entries others w s f) e where
  by : (b : Bool) → (chosen entries w ≡ None → said (map when_alone entries ++ others) w s ≡ said others w s) → (if b then Some entry.1 else chosen entries w) ≡ None
      → ((if b then Some (alone entry.1) else chosen (map when_alone entries ++ others) w) >>= λ p. p s) ≡ said others w s
  by true more e = absurd cc
  by false more e = more e

abbrev nothing : ℕ → Option Instruction
nothing n = None

numbered_said : (entries : List (List ℕ × (ℕ → Instruction))) (w s : List ℕ) → said (map when_numbered entries) w s ≡ (last (word index_at) s >>= λ n. option_map (λ make. make n) (chosen entries w))
numbered_said [] w s = by (last (word index_at) s) where
  by : (o : Option ℕ) → None ≡ (o >>= nothing)
  by None = refl
  by (Some n) = refl
numbered_said (entry ∷ entries) w s = by (pointwise nat_eq entry.0 w) (numbered_said entries w s) where
  by : (b : Bool) → said (map when_numbered entries) w s ≡ (last (word index_at) s >>= λ n. option_map (λ make. make n) (chosen entries w))
      → ((if b then Some (numbered entry.1) else chosen (map when_numbered entries) w) >>= λ p. p s) ≡ (last (word index_at) s >>= λ n. option_map (λ make. make n) (if b then Some entry.1 else chosen entries w))
  by true more = refl
  by false more = more

chosen_first : {A : Type 0} (entries others : List (List ℕ × A)) (w : List ℕ) (a : A) → chosen entries w ≡ Some a → chosen (entries ++ others) w ≡ Some a
chosen_first [] others w a e = absurd cc
chosen_first (entry ∷ entries) others w a e = by (pointwise nat_eq entry.0 w) (chosen_first entries others w a) e where
  by : (b : Bool) → (chosen entries w ≡ Some a → chosen (entries ++ others) w ≡ Some a) → (if b then Some entry.1 else chosen entries w) ≡ Some a → (if b then Some entry.1 else chosen (entries ++ others) w) ≡ Some a
  by true more e = e
  by false more e = more e

chosen_later : {A : Type 0} (entries others : List (List ℕ × A)) (w : List ℕ) → chosen entries w ≡ None → chosen (entries ++ others) w ≡ chosen others w
chosen_later [] others w e = refl
chosen_later (entry ∷ entries) others w e = by (pointwise nat_eq entry.0 w) (chosen_later entries others w) e where
  by : (b : Bool) → (chosen entries w ≡ None → chosen (entries ++ others) w ≡ chosen others w) → (if b then Some entry.1 else chosen entries w) ≡ None → (if b then Some entry.1 else chosen (entries ++ others) w) ≡ chosen others w
  by true more e = absurd cc
  by false more e = more e

as_instructions : (entries : List (List ℕ × Op)) (w : List ℕ) → chosen (map as_instruction entries) w ≡ option_map instruction.Operation (chosen entries w)
as_instructions [] w = refl
as_instructions (entry ∷ entries) w = by (pointwise nat_eq entry.0 w) (as_instructions entries w) where
  by : (b : Bool) → chosen (map as_instruction entries) w ≡ option_map instruction.Operation (chosen entries w)
      → (if b then Some (instruction.Operation entry.1) else chosen (map as_instruction entries) w) ≡ option_map instruction.Operation (if b then Some entry.1 else chosen entries w)
  by true more = refl
  by false more = more

pub operation_alone : (w : List ℕ) (o : Op) → Some o ≡ chosen alone_operations w → Some (instruction.Operation o) ≡ chosen alone_instructions w
unfolding alone_instructions
operation_alone w o e = sym (chosen_first (map as_instruction alone_operations) alone_control w (instruction.Operation o) (as_instructions alone_operations w ∙ ap (option_map instruction.Operation) (sym e)))

pub control_alone : (w : List ℕ) (r : Option Instruction) → None ≡ chosen alone_operations w → r ≡ chosen alone_control w → r ≡ chosen alone_instructions w
unfolding alone_instructions
control_alone w r e f = f ∙ sym (chosen_later (map as_instruction alone_operations) alone_control w (as_instructions alone_operations w ∙ ap (option_map instruction.Operation) (sym e)))

ends_here : (i : Instruction) (s : List ℕ) → nat_eq (length s) 0 ≡ true → alone i s ≡ Some i
ends_here i [] e = refl
ends_here i (c ∷ s) e = absurd (grind (arith, e))

goes_further : (i : Instruction) (s : List ℕ) → nat_eq (length s) 0 ≡ false → alone i s ≡ None
goes_further i [] e = absurd cc
goes_further i (c ∷ s) e = refl

pub textless_alone : (w s : List ℕ) (i : Instruction) → Some i ≡ chosen alone_instructions w → nat_eq (length s) 0 ≡ true → Some i ≡ said textless_instructions w s
unfolding textless_instructions
textless_alone w s i e t = sym (alone_said alone_instructions followed_instructions w s i (sym e) ∙ ends_here i s t)

pub textless_longer : (w s : List ℕ) (i : Instruction) → Some i ≡ chosen alone_instructions w → nat_eq (length s) 0 ≡ false → None ≡ said textless_instructions w s
unfolding textless_instructions
textless_longer w s i e t = sym (alone_said alone_instructions followed_instructions w s i (sym e) ∙ goes_further i s t)

-- CONST is the one mnemonic before a text
pub grouped_textless : (w s : List ℕ) → (w ≡ codes "CONST" → ⊥) → said grouped_instructions w s ≡ said textless_instructions w s
unfolding grouped_instructions
grouped_textless w s h =
    let constant : List (List ℕ × LineReader Instruction) = of_operation (codes "CONST", constant_at) ∷ [] in
    ap (λ (o : Option (LineReader Instruction)). o >>= λ p. p s) (chosen_later constant textless_instructions w (none_chosen constant w (h, tt)))

pub textless_followed : (w s : List ℕ) → None ≡ chosen alone_instructions w → said textless_instructions w s ≡ said followed_instructions w s
unfolding textless_instructions
textless_followed w s e = none_alone alone_instructions followed_instructions w s (sym e)

-- the first mnemonics are those of instructions that are followed by something else than a number
pub followed_numbered : (w s : List ℕ) → EachIs (λ e. w ≡ e.0 → ⊥) detailed_instructions → said followed_instructions w s ≡ (last (word index_at) s >>= λ n. option_map (λ make. make n) (chosen numbered_instructions w))
unfolding followed_instructions
followed_numbered w s h =
    ap (λ (o : Option (LineReader Instruction)). o >>= λ p. p s) (chosen_later detailed_instructions (map when_numbered numbered_instructions) w (none_chosen detailed_instructions w h))
    ∙ numbered_said numbered_instructions w s

-- ---- an instruction after a blank

pub instruction_said : (s w rest : List ℕ) → option_map bare (after (codes " ") s) ≡ Some (w, rest) → instruction_at s ≡ said grouped_instructions w rest
unfolding instruction_at
instruction_said s w rest e = word_said instructions s w rest e ∙ grouped w rest

pub no_instruction : (s : List ℕ) → NoText (option_map bare (after (codes " ") s)) → instruction_at s ≡ None
unfolding instruction_at
no_instruction s h = no_word instructions s refl h
