-- What the readers of words answer.
use Rattle.std.specs.Prelude.{◌≡◌, ℕ, List, ◌++◌, map, Option, Some, None, Result, Ok, Err}
use Rattle.std.specs.Str.{IsUtf8}
use Rattle.psm_list.specs.Several.{Several}
use Rattle.psm_cond.specs.declared.handlers.ConditionValue.{ConditionValue}
use Rattle.psm_load_line.specs.Forms.{ValueWord}
use Rattle.psm_load_line.specs.RoutineForms as routines
use Rattle.psm_load_line.specs.Said.{value_of}
use Rattle.psm_load_line.specs.declared.head.ControlCounts.{ControlCounts}
use Rattle.psm_load_line.specs.declared.head.DataCounts.{DataCounts}
use Rattle.psm_load_line.specs.declared.fault.Unread.{Unread}
use Rattle.psm_load_line.specs.declared.fault.Unread.TheVariants.{Misfit, Memory}

-- what is read, and what it is seen as, where that stands first, unless memory runs out
abbrev pub Takes : {A T : Type 0} → (T → A) → Option A → Result T Unread → Type 0
Takes view said (Ok x) = said ≡ Some (view x)
Takes view said (Err Misfit) = said ≡ None
Takes view said (Err Memory) = Unit {0}

-- what is made of what is read, unless memory runs out
abbrev pub Builds : {A T : Type 0} → (A → T) → Option A → Result T Unread → Type 0
Builds {A = A} make said (Ok x) = (a : A) × (said ≡ Some a) × (x ≡ make a)
Builds make said (Err Misfit) = said ≡ None
Builds make said (Err Memory) = Unit {0}

-- what is read stands after what stood in a list
abbrev pub Appends : {A T : Type 0} → Option (List A) → List A → List A → Result T Unread → Type 0
Appends {A = A} said before after (Ok x) = (more : List A) × (said ≡ Some more) × (after ≡ before ++ more)
Appends said before after (Err Misfit) = said ≡ None
Appends said before after (Err Memory) = Unit {0}

-- what is made of each thing that is read stands after what stood in a list
abbrev pub Adds : {A B T : Type 0} → (A → B) → Option (List A) → List B → List B → Result T Unread → Type 0
Adds {A = A} make said before after (Ok x) = (more : List A) × (said ≡ Some more) × (after ≡ before ++ map make more)
Adds make said before after (Err Misfit) = said ≡ None
Adds make said before after (Err Memory) = Unit {0}

-- the values of a handler
abbrev pub several_of : ValueWord × List ValueWord → Several ConditionValue
several_of x = record { first = value_of x.0; rest = map value_of x.1 }

abbrev pub with_value : ValueWord × List ℕ → ConditionValue × List ℕ
with_value x = (value_of x.0, x.1)

-- ---- the counts of a routine

abbrev pub data_counts_said : DataCounts → routines.DataCounts
data_counts_said c = (c.parameters, (c.slots, (c.queries, (c.cursors, c.plans))))

abbrev pub control_counts_said : ControlCounts → routines.ControlCounts
control_counts_said c = (c.conditions, (c.contexts, (c.handlers, c.lines)))

-- ---- a word that is a text, before what follows it

abbrev pub NoText : Option (List ℕ × List ℕ) → Type 0
NoText None = Unit {0}
NoText (Some x) = IsUtf8 x.0 → ⊥

abbrev pub IsText : Option (List ℕ × List ℕ) → Option (List ℕ × List ℕ) → Type 0
IsText due (Some x) = due ≡ Some x
IsText due None = NoText due
