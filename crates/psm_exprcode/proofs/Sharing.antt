-- Stacks that share what lies below, and the lines that have their stacks among them.
use Rattle.std.proofs.Common.{◌≡◌, ℕ, zero, suc, ◌+◌, ◌-◌, ◌<◌, ◌≤◌, Bool, true, false, ◌&&◌, nat_lt, List, [], ◌∷◌, ◌++◌, length, take, drop, get_or, map, refl, ap, sym, subst, ◌∙◌, arith, Option, Some, None, length-append, lt-ltb, ltb-true}
use Rattle.std.specs.Prelude.{reverse, option_map, slice_get}
use Rattle.std.proofs.lemmas.List.{get_or_append_left, get_or_push, get_or_default, reverse-append, reverse-reverse, take_more, take-append-drop, drop-map, drop_more, map-append}
use Rattle.std.proofs.lemmas.List.Elements.{All-head, All-tail}
use Rattle.std.proofs.lemmas.Option.{slice_get-map, slice_get_within, get_or_from_slice_get}
use Rattle.psm_num.proofs.Literals.{and_first, and_second}
use Rattle.psm_exprcode.specs.declared.op.Letter.{Letter}
use Rattle.psm_exprcode.specs.declared.op.Op.{Op}
use Rattle.psm_exprcode.specs.declared.raw.NumberedLine.{NumberedLine}
use Rattle.psm_exprcode.specs.declared.stacks.Node.{Node}
use Rattle.psm_exprcode.specs.WellFormed.{is_known, is_line, are_lines}
use Rattle.psm_exprcode.proofs.Stripping.{is_letter-same}
use Rattle.psm_exprcode.specs.Numbered.{line_of, lines_of, AreStatedIn}
use Rattle.psm_exprcode.specs.Stacks.{first_stacks, stack_at, stacks_with, are_on_earlier, Extends}

-- ---- nodes

pub stacks_with-push : (stacks : List (List Letter)) (nodes : List Node) (n : Node) → stacks_with stacks (nodes ++ n ∷ []) ≡ stacks_with stacks nodes ++ (n.letter ∷ stack_at (stacks_with stacks nodes) n.below) ∷ []
stacks_with-push stacks [] n = refl
stacks_with-push stacks (m ∷ nodes) n = stacks_with-push (stacks ++ (m.letter ∷ stack_at stacks m.below) ∷ []) nodes n

pub length-stacks_with : (stacks : List (List Letter)) (nodes : List Node) → length (stacks_with stacks nodes) ≡ length stacks + length nodes
length-stacks_with stacks [] = omega arith
length-stacks_with stacks (m ∷ nodes) =
    let more : List (List Letter) = (m.letter ∷ stack_at stacks m.below) ∷ [] in
    omega (arith, length-stacks_with (stacks ++ more) nodes, length-append stacks more)

-- the stacks that were there before stay
pub stack_at-stacks_with : (stacks : List (List Letter)) (nodes : List Node) (k : ℕ) → k < length stacks → stack_at (stacks_with stacks nodes) k ≡ stack_at stacks k
stack_at-stacks_with stacks [] k h = refl
stack_at-stacks_with stacks (m ∷ nodes) k h =
    let more : List (List Letter) = (m.letter ∷ stack_at stacks m.below) ∷ [] in
    let within : k < length (stacks ++ more) = omega (arith, h, length-append stacks more) in
    stack_at-stacks_with (stacks ++ more) nodes k within ∙ get_or_append_left stacks more [] k h

pub earlier-push : (number : ℕ) (nodes : List Node) (n : Node) → are_on_earlier number nodes ≡ true → n.below < number + length nodes → are_on_earlier number (nodes ++ n ∷ []) ≡ true
earlier-push number [] n h k =
    let below : n.below < number = omega (arith, k) in
    ap (λ b. b && true) (lt-ltb n.below number below)
earlier-push number (m ∷ nodes) n h k =
    let first : nat_lt m.below number ≡ true = and_first (nat_lt m.below number) (are_on_earlier (suc number) nodes) h in
    let below : n.below < suc number + length nodes = omega (arith, k) in
    ap (λ b. b && are_on_earlier (suc number) (nodes ++ n ∷ [])) first
    ∙ earlier-push (suc number) nodes n (and_second (nat_lt m.below number) (are_on_earlier (suc number) nodes) h) below

-- a stack is the letter of a node on one before it
pub record Stands (stacks : List (List Letter)) (number : ℕ) (n : Node) : Type 0 where
  pub earlier : n.below < number
  pub parts : stack_at stacks number ≡ n.letter ∷ stack_at stacks n.below

stands_first : (stacks : List (List Letter)) (m : Node) (nodes : List Node) (number : ℕ) → number ≡ length stacks → nat_lt m.below (length stacks) ≡ true → Stands (stacks_with stacks (m ∷ nodes)) number m
stands_first stacks m nodes number e h =
    let below : m.below < length stacks = ltb-true m.below (length stacks) h in
    let more : List (List Letter) = (m.letter ∷ stack_at stacks m.below) ∷ [] in
    let within : number < length (stacks ++ more) = omega (arith, e, length-append stacks more) in
    let kept : stack_at (stacks_with stacks (m ∷ nodes)) m.below ≡ stack_at stacks m.below = stack_at-stacks_with stacks (m ∷ nodes) m.below below in
    record {
      earlier = omega (arith, below, e);
      parts = stack_at-stacks_with (stacks ++ more) nodes number within ∙ get_or_push stacks (m.letter ∷ stack_at stacks m.below) [] number (sym e) ∙ ap (λ s. m.letter ∷ s) (sym kept);
    }

stands_at : (stacks : List (List Letter)) (nodes : List Node) (i number : ℕ) (n : Node) → i < length nodes → n ≡ get_or nodes i n → number ≡ length stacks + i → are_on_earlier (length stacks) nodes ≡ true
    → Stands (stacks_with stacks nodes) number n
stands_at stacks [] i number n h e g k = absurd (omega (arith, h))
stands_at stacks (m ∷ nodes) zero number n h e g k =
    let F : Node → Type 0 = λ x. Stands (stacks_with stacks (m ∷ nodes)) number x in
    subst F (sym e) (stands_first stacks m nodes number (omega (arith, g)) (and_first (nat_lt m.below (length stacks)) (are_on_earlier (suc (length stacks)) nodes) k))
stands_at stacks (m ∷ nodes) (suc i) number n h e g k =
    let more : List (List Letter) = (m.letter ∷ stack_at stacks m.below) ∷ [] in
    let longer : suc (length stacks) ≡ length (stacks ++ more) = omega (arith, length-append stacks more) in
    let rest : are_on_earlier (length (stacks ++ more)) nodes ≡ true =
    sym (ap (λ j. are_on_earlier j nodes) longer) ∙ and_second (nat_lt m.below (length stacks)) (are_on_earlier (suc (length stacks)) nodes) k in
    stands_at (stacks ++ more) nodes i number n (omega (arith, h)) e (omega (arith, g, longer)) rest

-- what the number of a stack that a node makes says of the nodes
pub node_there : (stacks : List (List Letter)) (nodes : List Node) (number : ℕ) → stacks_with first_stacks nodes ≡ stacks → 4 ≤ number → number < length stacks → number - 4 < length nodes
node_there stacks nodes number e h k = omega (arith, h, k, ap length e, length-stacks_with first_stacks nodes)

pub node_at : (stacks : List (List Letter)) (nodes : List Node) (number : ℕ) (d : Node) → stacks_with first_stacks nodes ≡ stacks → are_on_earlier 4 nodes ≡ true → 4 ≤ number → number < length stacks
    → Stands stacks number (get_or nodes (number - 4) d)
node_at stacks nodes number d e g h k =
    let there : number - 4 < length nodes = node_there stacks nodes number e h k in
    let F : List (List Letter) → Type 0 = λ u. Stands u number (get_or nodes (number - 4) d) in
    subst F e (stands_at first_stacks nodes (number - 4) number (get_or nodes (number - 4) d) there (get_or_default nodes (number - 4) d (get_or nodes (number - 4) d) there) (omega (arith, h)) g)

-- the first stacks are there

pub first_there : (stacks : List (List Letter)) (nodes : List Node) (k : ℕ) → stacks_with first_stacks nodes ≡ stacks → k < 4 → k < length stacks
first_there stacks nodes k e h = omega (arith, h, ap length e, length-stacks_with first_stacks nodes)

pub first_stack : (stacks : List (List Letter)) (nodes : List Node) (number k : ℕ) → stacks_with first_stacks nodes ≡ stacks → number ≡ k → k < 4 → stack_at stacks number ≡ stack_at first_stacks k
first_stack stacks nodes number k e g h = ap (λ n. stack_at stacks n) g ∙ sym (ap (λ s. stack_at s k) e) ∙ stack_at-stacks_with first_stacks nodes k h

pub first_single : (stacks : List (List Letter)) (nodes : List Node) (number k : ℕ) (l : Letter) → stacks_with first_stacks nodes ≡ stacks → number ≡ k → k < 4 → stack_at first_stacks k ≡ l ∷ []
    → stack_at stacks number ≡ l ∷ stack_at stacks 0
first_single stacks nodes number k l e g h p =
    let z : stack_at stacks 0 ≡ [] = first_stack stacks nodes 0 0 e refl (omega arith) in
    first_stack stacks nodes number k e g h ∙ p ∙ ap (λ s. l ∷ s) (sym z)

-- ---- a node more

pub put_number : (stacks : List (List Letter)) (nodes : List Node) → stacks_with first_stacks nodes ≡ stacks → 4 + length nodes ≡ length stacks
put_number stacks nodes e = omega (arith, ap length e, length-stacks_with first_stacks nodes)

pub put_earlier : (stacks : List (List Letter)) (nodes new : List Node) (n : Node) → stacks_with first_stacks nodes ≡ stacks → are_on_earlier 4 nodes ≡ true → new ≡ nodes ++ n ∷ [] → n.below < length stacks
    → are_on_earlier 4 new ≡ true
put_earlier stacks nodes new n e g p h = ap (are_on_earlier 4) p ∙ earlier-push 4 nodes n g (omega (arith, h, put_number stacks nodes e))

pub put_stacks : (stacks : List (List Letter)) (nodes new : List Node) (n : Node) → stacks_with first_stacks nodes ≡ stacks → new ≡ nodes ++ n ∷ []
    → stacks_with first_stacks new ≡ stacks ++ (n.letter ∷ stack_at stacks n.below) ∷ []
put_stacks stacks nodes new n e p =
    ap (stacks_with first_stacks) p ∙ stacks_with-push first_stacks nodes n ∙ ap (λ u. u ++ (n.letter ∷ stack_at u n.below) ∷ []) e

-- ---- letters that are put

-- some letters are put on a stack of those before
pub record Putting (old new : List (List Letter)) (below number : ℕ) (put : List Letter) : Type 0 where
  pub extends : Extends old new
  pub there : number < length new
  pub stack : stack_at new number ≡ reverse put ++ stack_at old below

-- ---- letters that are counted

pub record Counting (stacks : List (List Letter)) (number rest depth : ℕ) : Type 0 where
  pub there : rest < length stacks
  pub counted : depth + length (stack_at stacks rest) ≡ length (stack_at stacks number)
  pub few : depth + rest ≤ number

-- ---- letters that are shared

-- Where the rest of a stack is n of the first letters, what was found is n of them.
pub record Sharing (stacks : List (List Letter)) (letters : List Letter) (rest shared depth count : ℕ) : Type 0 where
  pub rest_there : rest < length stacks
  pub shared_there : shared < length stacks
  pub deep : length (stack_at stacks rest) ≡ depth
  pub within : depth ≤ length letters → count ≤ length letters
  pub same : stack_at stacks rest ≡ reverse (take depth letters) → stack_at stacks shared ≡ reverse (take count letters)

less_deep : (stacks : List (List Letter)) (rest below depth : ℕ) (l : Letter) → length (stack_at stacks rest) ≡ depth → stack_at stacks rest ≡ l ∷ stack_at stacks below → length (stack_at stacks below) + 1 ≡ depth
less_deep stacks rest below depth l h e = let one : length (stack_at stacks rest) ≡ suc (length (stack_at stacks below)) = ap length e in omega (arith, h, one)

known_some : (l : Letter) (o : Option Letter) → is_known l o ≡ true → o ≡ Some l
known_some l None h = absurd (cc)
known_some l (Some k) h = ap (λ x. Some x) (sym (is_letter-same l k h))

sharing_kept : (stacks : List (List Letter)) (letters : List Letter) (rest below shared depth d count : ℕ) (l : Letter) → Sharing stacks letters rest shared depth count
    → stack_at stacks rest ≡ l ∷ stack_at stacks below → below < rest → depth ≡ d + 1 → slice_get letters d ≡ Some l → Sharing stacks letters below shared d count
sharing_kept stacks letters rest below shared depth d count l h e k p g =
    let deep : length (stack_at stacks below) + 1 ≡ depth = less_deep stacks rest below depth l h.deep e in
    let there : d < length letters = slice_get_within letters d l g in
    let more : take depth letters ≡ take d letters ++ l ∷ [] =
    ap (λ n. take n letters) p ∙ take_more letters d l there ∙ ap (λ x. take d letters ++ x ∷ []) (get_or_from_slice_get letters d l l g) in
    record {
      rest_there = omega (arith, h.rest_there, k);
      shared_there = h.shared_there;
      deep = omega (arith, deep, p);
      within = λ w. h.within (omega (arith, there, p));
      same = λ s. h.same (e ∙ ap (λ u. l ∷ u) s ∙ sym (ap reverse more ∙ reverse-append (take d letters) (l ∷ [])));
    }

pub sharing_same : (stacks : List (List Letter)) (letters : List Letter) (rest below shared depth count : ℕ) (l : Letter) → Sharing stacks letters rest shared depth count
    → stack_at stacks rest ≡ l ∷ stack_at stacks below → below < rest → is_known l (slice_get letters (depth - 1)) ≡ true → Sharing stacks letters below shared (depth - 1) count
sharing_same stacks letters rest below shared depth count l h e k g =
    let deep : length (stack_at stacks below) + 1 ≡ depth = less_deep stacks rest below depth l h.deep e in
    let one : depth ≡ depth - 1 + 1 = omega (arith, deep) in
    sharing_kept stacks letters rest below shared depth (depth - 1) count l h e k one (known_some l (slice_get letters (depth - 1)) g)

-- letters on those that are shared are all of them
pub shared_put : (stacks new : List (List Letter)) (letters put : List Letter) (shared count number : ℕ) → stack_at stacks shared ≡ reverse (take count letters) → put ≡ drop count letters
    → stack_at new number ≡ reverse put ++ stack_at stacks shared → stack_at new number ≡ reverse letters
shared_put stacks new letters put shared count number h e g =
    g ∙ ap (λ u. reverse put ++ u) h ∙ ap (λ u. reverse u ++ reverse (take count letters)) e ∙ sym (reverse-append (take count letters) (drop count letters))
    ∙ ap reverse (take-append-drop count letters)

-- ---- lines

pub lines_kept : (old new : List (List Letter)) (lines : List NumberedLine) → Extends old new → AreStatedIn old lines → lines_of new lines ≡ lines_of old lines
lines_kept old new [] h k = refl
lines_kept old new (l ∷ lines) h k =
    let P : NumberedLine → Type 0 = λ l. l.stack < length old in
    let first : line_of new l ≡ line_of old l = ap (λ s. record { stack = reverse s; op = l.op }) (h.same l.stack (All-head P l lines k)) in
    ap (λ x. x ∷ lines_of new lines) first ∙ ap (λ u. line_of old l ∷ u) (lines_kept old new lines h (All-tail P l lines k))

pub letters_stated : (stacks : List (List Letter)) (l : NumberedLine) → reverse (line_of stacks l).stack ≡ stack_at stacks l.stack
letters_stated stacks l = reverse-reverse (stack_at stacks l.stack)

-- the letters that the line at an index states
pub stated_some : (stacks : List (List Letter)) (lines : List NumberedLine) (at : ℕ) (l : NumberedLine) → slice_get lines at ≡ Some l
    → Some (stack_at stacks l.stack) ≡ option_map (λ l. reverse l.stack) (slice_get (lines_of stacks lines) at)
stated_some stacks lines at l e =
    ap (λ s. Some s) (sym (letters_stated stacks l)) ∙ sym (ap (λ o. option_map (λ l. reverse l.stack) (option_map (line_of stacks) o)) e) ∙ ap (option_map (λ l. reverse l.stack)) (sym (slice_get-map (line_of stacks) lines at))

pub stated_none : (stacks : List (List Letter)) (lines : List NumberedLine) (at : ℕ) → slice_get lines at ≡ None → None ≡ option_map (λ l. reverse l.stack) (slice_get (lines_of stacks lines) at)
stated_none stacks lines at e =
    sym (ap (λ o. option_map (λ l. reverse l.stack) (option_map (line_of stacks) o)) e) ∙ ap (option_map (λ l. reverse l.stack)) (sym (slice_get-map (line_of stacks) lines at))

-- lines after an index
pub lines_after : (stacks : List (List Letter)) (lines : List NumberedLine) (at : ℕ) → lines_of stacks (drop at lines) ≡ drop at (lines_of stacks lines)
lines_after stacks lines at = sym (drop-map (line_of stacks) at lines)

-- the line at an index and those after it
pub lines_from : (stacks : List (List Letter)) (lines : List NumberedLine) (at : ℕ) (l : NumberedLine) → at < length lines → l ≡ get_or lines at l
    → drop at (lines_of stacks lines) ≡ line_of stacks l ∷ drop (at + 1) (lines_of stacks lines)
lines_from stacks lines at l h e =
    drop-map (line_of stacks) at lines ∙ ap (map (line_of stacks)) (drop_more lines at l h) ∙ ap (λ k. line_of stacks k ∷ map (line_of stacks) (drop (at + 1) lines)) (sym e)
    ∙ ap (λ u. line_of stacks l ∷ u) (sym (drop-map (line_of stacks) (at + 1) lines))

-- ---- a line more

pub lines_push : (old new : List (List Letter)) (lines more : List NumberedLine) (n : NumberedLine) (letters : List Letter) → Extends old new → AreStatedIn old lines → more ≡ lines ++ n ∷ []
    → stack_at new n.stack ≡ reverse letters → lines_of new more ≡ lines_of old lines ++ record { stack = letters; op = n.op } ∷ []
lines_push old new lines more n letters h k e g =
    let last : line_of new n ≡ record { stack = letters; op = n.op } = ap (λ s. record { stack = s; op = n.op }) (ap reverse g ∙ reverse-reverse letters) in
    ap (lines_of new) e ∙ map-append (line_of new) lines (n ∷ []) ∙ ap (λ u. u ++ line_of new n ∷ []) (lines_kept old new lines h k) ∙ ap (λ l. lines_of old lines ++ l ∷ []) last

-- ---- lines that are right

pub stated_there : (stacks : List (List Letter)) (lines : List NumberedLine) (at : ℕ) (l : NumberedLine) → AreStatedIn stacks lines → at < length lines → l ≡ get_or lines at l → l.stack < length stacks
stated_there stacks lines at l h k e = let P : NumberedLine → Type 0 = λ x. x.stack < length stacks in subst P (sym e) (h at l k)

lines_right : (may : Op → Letter → Bool) (end : Letter) (stacks : List (List Letter)) (lines : List NumberedLine) (at : ℕ) (l : NumberedLine) (b : Bool) → at < length lines → l ≡ get_or lines at l
    → b ≡ is_line may end at (line_of stacks l) (drop (at + 1) (lines_of stacks lines))
    → are_lines may end at (drop at (lines_of stacks lines)) ≡ (b && are_lines may end (at + 1) (drop (at + 1) (lines_of stacks lines)))
lines_right may end stacks lines at l b h e g =
    let rest = drop (at + 1) (lines_of stacks lines) in
    let next : suc at ≡ at + 1 = omega arith in
    ap (are_lines may end at) (lines_from stacks lines at l h e) ∙ ap (λ c. c && are_lines may end (suc at) rest) (sym g) ∙ ap (λ n. b && are_lines may end n rest) next

pub line_wrong : (may : Op → Letter → Bool) (end : Letter) (stacks : List (List Letter)) (lines : List NumberedLine) (at : ℕ) (l : NumberedLine) (b : Bool) → at < length lines → l ≡ get_or lines at l
    → b ≡ is_line may end at (line_of stacks l) (drop (at + 1) (lines_of stacks lines)) → b ≡ false → false ≡ are_lines may end at (drop at (lines_of stacks lines))
line_wrong may end stacks lines at l b h e g k =
    sym (lines_right may end stacks lines at l b h e g ∙ ap (λ c. c && are_lines may end (at + 1) (drop (at + 1) (lines_of stacks lines))) k)

pub line_right : (may : Op → Letter → Bool) (end : Letter) (stacks : List (List Letter)) (lines : List NumberedLine) (at : ℕ) (l : NumberedLine) (b : Bool) → at < length lines → l ≡ get_or lines at l
    → b ≡ is_line may end at (line_of stacks l) (drop (at + 1) (lines_of stacks lines)) → b ≡ true
    → are_lines may end (at + 1) (drop (at + 1) (lines_of stacks lines)) ≡ are_lines may end at (drop at (lines_of stacks lines))
line_right may end stacks lines at l b h e g k =
    sym (lines_right may end stacks lines at l b h e g ∙ ap (λ c. c && are_lines may end (at + 1) (drop (at + 1) (lines_of stacks lines))) k)
