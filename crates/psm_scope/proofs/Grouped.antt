-- Functions found by their name and number of parameters, and the walk through their blocks.
use Rattle.std.proofs.Common.{◌≡◌, ◌<◌, ◌≤◌, ℕ, suc, zero, ◌+◌, Bool, true, false, ◌&&◌, nat_eq, is_some, length, map, drop, List, [], ◌∷◌, ◌++◌, refl, ap, sym, ◌∙◌, subst, arith, append_assoc}
use Rattle.std.specs.Prelude.{Option, Some, None, Result, Err, slice_get, if◌then◌else◌}
use Rattle.std.specs.Cmp.Lexicographic.{pointwise}
use Rattle.std.specs.List.{filter}
use Rattle.std.specs.Map.{lookup, values_of}
use Rattle.std.specs.Option.{option_map}
use Rattle.std.proofs.lemmas.Bool.Decides.{nat_tests}
use Rattle.std.proofs.lemmas.Option.{slice_get-map}
use Rattle.std.proofs.lemmas.List.Elements.{filter-append}
use Rattle.std.proofs.lemmas.Slice.Eq.{bytes_eq-Decides}
use Rattle.psm_scope.specs.declared.blocks.Block.{Block}
use Rattle.psm_scope.specs.declared.blocks.Group.{Group}
use Rattle.psm_scope.specs.declared.choice.Best.{Best}
use Rattle.psm_scope.specs.declared.fault.ChoiceFault.{ChoiceFault}
use Rattle.psm_scope.specs.declared.fault.ChoiceFault.TheVariants.{NoRoutine}
use Rattle.psm_scope.specs.declared.index.Exact.{Exact}
use Rattle.psm_scope.specs.declared.key.CallKey.{CallKey}
use Rattle.psm_scope.specs.declared.kinds.ArgKind.{ArgKind}
use Rattle.psm_scope.specs.declared.signatures.Function.{Function}
use Rattle.psm_scope.specs.Blocks.{AreBlocks, HaveCount, IsBlock, IsGroup}
use Rattle.psm_scope.specs.Choice.{Candidate, Signature, all_go, candidates, chosen, goes_to, narrowed, only}
use Rattle.psm_scope.specs.Exact.{exact_of}
use Rattle.psm_scope.specs.Keys.{same_call}
use Rattle.psm_scope.specs.Pass.{IsAsLong, Sees, is_more, merged}
use Rattle.psm_scope.specs.Signatures.{IsGrouped, called, is_called, signature_of}
use Rattle.psm_scope.proofs.Found.{length_map, map_last, none_last, one_if, spelled_back}
use Rattle.psm_scope.proofs.Lists.{both}
use Rattle.psm_scope.proofs.Merged.{narrowed_both}
use Rattle.psm_scope.proofs.Named.{is_none}
use Rattle.psm_scope.proofs.Narrowing.{Each, each_kept, each_narrowed, each_one, narrowed_none}

-- ---- the candidates of a call are among the functions of its name and number of arguments

all_go_long : (args kinds : List ArgKind) → all_go args kinds ≡ true → length args ≡ length kinds
all_go_long [] [] e = refl
all_go_long [] (k ∷ ks) e = cc
all_go_long (a ∷ others) [] e = cc
all_go_long (a ∷ others) (k ∷ ks) e = ap suc (all_go_long others ks (both (goes_to a k) (all_go others ks) e).1)

-- those to which the arguments go
abbrev pub fitting : List ArgKind → List Candidate → List Candidate
fitting args cs = filter (λ c. all_go args c.1) cs

candidates_fit : (n : ℕ) (name : List ℕ) (args : List ArgKind) (routines : List Signature) → candidates n name args routines ≡ fitting args (called n name (length args) routines)
candidates_fit n name args [] = refl
candidates_fit n name args (s ∷ others) =
    by (pointwise nat_eq name s.name) (all_go args s.kinds) (nat_eq (length args) (length s.kinds)) refl refl (candidates_fit (suc n) name args others)
  where
    own : Candidate
    own = (n, s.kinds)

    by : (named goes long : Bool) → all_go args s.kinds ≡ goes → nat_eq (length args) (length s.kinds) ≡ long
        → candidates (suc n) name args others ≡ fitting args (called (suc n) name (length args) others)
        → (if named && goes then own ∷ candidates (suc n) name args others else candidates (suc n) name args others)
        ≡ fitting args (if named && long then own ∷ called (suc n) name (length args) others else called (suc n) name (length args) others)
    by false goes long g l e = e
    by true true true g l e =
        ap (λ m. own ∷ m) e
        ∙ sym (ap (λ b. if b then own ∷ fitting args (called (suc n) name (length args) others) else fitting args (called (suc n) name (length args) others)) g)
    by true true false g l e =
        let h : length args ≡ length s.kinds = all_go_long args s.kinds g in
        let t : nat_eq (length args) (length s.kinds) ≡ true = grind (arith, nat_tests, h) in
        let no : true ≡ false = sym t ∙ l in
        cc
    by true false true g l e =
        e ∙ sym (ap (λ b. if b then own ∷ fitting args (called (suc n) name (length args) others) else fitting args (called (suc n) name (length args) others)) g)
    by true false false g l e = e

-- ---- what is known of the functions of a name and number of parameters

have_count : (n : ℕ) (name : List ℕ) (count : ℕ) (routines : List Signature) → HaveCount count (called n name count routines)
have_count n name count [] = tt
have_count n name count (s ∷ others) = by (is_called name count s) refl (have_count (suc n) name count others)
  where
    by : (b : Bool) → is_called name count s ≡ b → HaveCount count (called (suc n) name count others)
        → HaveCount count (if b then (n, s.kinds) ∷ called (suc n) name count others else called (suc n) name count others)
    by true e h =
        let t : nat_eq count (length s.kinds) ≡ true = (both (pointwise nat_eq name s.name) (nat_eq count (length s.kinds)) e).1 in
        (grind (arith, nat_tests, t), h)
    by false e h = h

have_parts : (count : ℕ) (xs ys : List Candidate) → HaveCount count (xs ++ ys) → HaveCount count xs × HaveCount count ys
have_parts count [] ys h = (tt, h)
have_parts count (x ∷ xs) ys h = let r = have_parts count xs ys h.1 in ((h.0, r.0), r.1)

have_each : (count : ℕ) (cs : List Candidate) → HaveCount count cs → Each (λ c. length c.1 ≡ count) cs
have_each count [] h = tt
have_each count (c ∷ cs) h = (h.0, have_each count cs h.1)

each_parts : (P : Candidate → Type 0) (xs ys : List Candidate) → Each P (xs ++ ys) → Each P xs × Each P ys
each_parts P [] ys h = (tt, h)
each_parts P (x ∷ xs) ys h = let r = each_parts P xs ys h.1 in ((h.0, r.0), r.1)

got_drop : {A : Type 0} (xs : List A) (x : A) (ys : List A) (k : ℕ) → drop k xs ≡ x ∷ ys → (slice_get xs k ≡ Some x) × (drop (suc k) xs ≡ ys)
got_drop [] x ys zero e = cc
got_drop [] x ys (suc k) e = cc
got_drop (z ∷ zs) x ys zero e = let h : z ≡ x = cc in let t : zs ≡ ys = cc in (ap Some h, t)
got_drop (z ∷ zs) x ys (suc k) e = got_drop zs x ys k e

-- the function with the number has the kinds
abbrev Has : List Signature → Candidate → Type 0
Has routines c = option_map (λ (s : Signature). s.kinds) (slice_get routines c.0) ≡ Some c.1

called_has : (routines : List Signature) (n : ℕ) (name : List ℕ) (count : ℕ) (rest : List Signature) → drop n routines ≡ rest → Each (λ c. Has routines c) (called n name count rest)
called_has routines n name count [] e = tt
called_has routines n name count (s ∷ others) e =
    let g = got_drop routines s others n e in
    each_one (λ c. Has routines c) (n, s.kinds) (called (suc n) name count others) (is_called name count s) (λ is. ap (option_map (λ (s : Signature). s.kinds)) g.0)
    (called_has routines (suc n) name count others g.1)

-- ---- one function more

called_last : (n m : ℕ) (name : List ℕ) (count : ℕ) (xs : List Signature) (s : Signature) → m ≡ n + length xs
    → called n name count (xs ++ s ∷ []) ≡ called n name count xs ++ one_if (is_called name count s) (m, s.kinds)
called_last n m name count [] s at = by (is_called name count s)
  where
    alone : ℕ → List Candidate
    alone k = (k, s.kinds) ∷ []

    same : n ≡ m
    same = omega (arith, at)

    by : (b : Bool) → (if b then alone n else []) ≡ one_if b (m, s.kinds)
    by true = ap alone same
    by false = refl
called_last n m name count (x ∷ xs) s at = by (is_called name count x) (called_last (suc n) m name count xs s (omega (arith, at)))
  where
    by : (b : Bool) → called (suc n) name count (xs ++ s ∷ []) ≡ called (suc n) name count xs ++ one_if (is_called name count s) (m, s.kinds)
        → (if b then (n, x.kinds) ∷ called (suc n) name count (xs ++ s ∷ []) else called (suc n) name count (xs ++ s ∷ []))
        ≡ (if b then (n, x.kinds) ∷ called (suc n) name count xs else called (suc n) name count xs) ++ one_if (is_called name count s) (m, s.kinds)
    by true rec = ap (λ l. (n, x.kinds) ∷ l) rec
    by false rec = rec

moved : (m n : ℕ) (bs cs : List Candidate) (o p : Option Group) → m ≡ n → bs ≡ cs → o ≡ p → IsGroup m bs o → IsGroup n cs p
moved m n bs cs o p e f g h = subst (λ n. IsGroup n cs p) e (subst (λ cs. IsGroup m cs p) f (subst (λ p. IsGroup m bs p) g h))

count_is : (m n : ℕ) → nat_eq m n ≡ true → m ≡ n
count_is m n h = grind (arith, nat_tests, h)

count_back : (m n : ℕ) → nat_eq m n ≡ nat_eq n m
count_back m n = grind (arith, nat_tests)

same_found : (key q : CallKey) (index : List (CallKey × Group)) → key.name.name.now ≡ q.name.name.now → key.count ≡ q.count → lookup (same_call key) index ≡ lookup (same_call q) index
same_found key q index n m = λ i. lookup (λ (b : CallKey). pointwise nat_eq (n i) b.name.name.now && nat_eq (m i) b.count) index

same_as : (key q : CallKey) → same_call key q ≡ true → (key.name.name.now ≡ q.name.name.now) × (key.count ≡ q.count)
same_as key q e =
    let p = both (pointwise nat_eq key.name.name.now q.name.name.now) (nat_eq key.count q.count) e in
    ((bytes_eq-Decides key.name.name.now q.name.name.now).0 p.0, count_is key.count q.count p.1)

module _ (fs : List Function) (index after : List (CallKey × Group)) (key : CallKey) (grouped : IsGrouped fs index)
    (others : (q : CallKey) → same_call key q ≡ false → lookup (same_call q) after ≡ lookup (same_call q) index) where
  abbrev sigs : List Signature
  sigs = map signature_of fs

  -- where nothing comes to the group
  pub grouped_same : ((cs : List Candidate) → IsGroup key.count cs (lookup (same_call key) index) → IsGroup key.count cs (lookup (same_call key) after)) → IsGrouped fs after
  grouped_same group = λ q. by q (same_call key q) refl
    where
      by : (q : CallKey) (b : Bool) → same_call key q ≡ b → IsGroup q.count (called 0 q.name.name.now q.count sigs) (lookup (same_call q) after)
      by q true e =
          let p = same_as key q e in
          moved key.count q.count (called 0 key.name.name.now key.count sigs) (called 0 q.name.name.now q.count sigs) (lookup (same_call key) after) (lookup (same_call q) after)
          p.1 (λ i. called 0 (p.0 i) (p.1 i) sigs) (same_found key q after p.0 p.1) (group (called 0 key.name.name.now key.count sigs) (grouped key))
      by q false e = subst (λ o. IsGroup q.count (called 0 q.name.name.now q.count sigs) o) (sym (others q e)) (grouped q)

  pub grouped_more : (f : Function) → key.name.name.now ≡ f.name.now → key.count ≡ length f.kinds
      → ((cs : List Candidate) → IsGroup key.count cs (lookup (same_call key) index) → IsGroup key.count (cs ++ (length fs, f.kinds) ∷ []) (lookup (same_call key) after))
      → IsGrouped (fs ++ f ∷ []) after
  grouped_more f named counted group = λ q.
      let few : length sigs ≡ length fs = length_map signature_of fs in
      subst (λ l. IsGroup q.count (called 0 q.name.name.now q.count l) (lookup (same_call q) after)) (sym (map_last signature_of fs f))
      (subst (λ l. IsGroup q.count l (lookup (same_call q) after)) (sym (called_last 0 (length fs) q.name.name.now q.count sigs (signature_of f) (omega (arith, few)))) (by q (same_call key q) refl))
    where
      called_is : (q : CallKey) → same_call key q ≡ is_called q.name.name.now q.count (signature_of f)
      called_is q =
          ap (λ b. b && nat_eq key.count q.count) (spelled_back key.name.name.now q.name.name.now)
          ∙ ap (λ b. pointwise nat_eq q.name.name.now key.name.name.now && b) (count_back key.count q.count)
          ∙ (λ i. pointwise nat_eq q.name.name.now (named i) && nat_eq q.count (counted i))

      by : (q : CallKey) (b : Bool) → same_call key q ≡ b
          → IsGroup q.count (called 0 q.name.name.now q.count sigs ++ one_if (is_called q.name.name.now q.count (signature_of f)) (length fs, f.kinds)) (lookup (same_call q) after)
      by q true e =
          let p = same_as key q e in
          let c : Candidate = (length fs, f.kinds) in
          moved key.count q.count (called 0 key.name.name.now key.count sigs ++ c ∷ []) (called 0 q.name.name.now q.count sigs ++ one_if (is_called q.name.name.now q.count (signature_of f)) c)
          (lookup (same_call key) after) (lookup (same_call q) after) p.1
          ((λ i. called 0 (p.0 i) (p.1 i) sigs ++ c ∷ []) ∙ ap (λ b. called 0 q.name.name.now q.count sigs ++ one_if b c) (sym e ∙ called_is q))
          (same_found key q after p.0 p.1) (group (called 0 key.name.name.now key.count sigs) (grouped key))
      by q false e =
          let c : Candidate = (length fs, f.kinds) in
          let cs = called 0 q.name.name.now q.count sigs in
          moved q.count q.count cs (cs ++ one_if (is_called q.name.name.now q.count (signature_of f)) c) (lookup (same_call q) index) (lookup (same_call q) after) refl
          (sym (none_last cs) ∙ ap (λ b. cs ++ one_if b c) (sym e ∙ called_is q)) (sym (others q e)) (grouped q)

-- what the index finds
module _ (fs : List Function) (index : List (CallKey × Group)) (routines : List Signature) (key : CallKey) (name : List ℕ) (count : ℕ) (grouped : IsGrouped fs index)
    (view : map signature_of fs ≡ routines) (named : key.name.name.now ≡ name) (counted : key.count ≡ count) where
  pub found_group : (o : Option Group) → o ≡ lookup (same_call key) index → IsGroup count (called 0 name count routines) o
  found_group o is =
      moved key.count count (called 0 key.name.name.now key.count (map signature_of fs)) (called 0 name count routines) (lookup (same_call key) index) o counted
      (λ i. called 0 (named i) (counted i) (view i)) (sym is) (grouped key)

  pub found_none : false ≡ is_some (lookup (same_call key) index) → called 0 name count routines ≡ []
  found_none e = found_group None (sym (is_none (lookup (same_call key) index) (sym e)))

  pub found_some : (at : ℕ) (k : CallKey) (g : Group) → ◌≡◌ {A = Option (CallKey × Group)} (Some (k, g)) (slice_get index at) → slice_get (values_of index) at ≡ lookup (same_call key) index
      → AreBlocks count (called 0 name count routines) g.blocks.items
  found_some at k g e f = found_group (Some g) (ap (option_map {T = CallKey × Group} {U = Group} (λ e. e.1)) e ∙ sym (slice_get-map (λ e. e.1) index at) ∙ f)

-- ---- the walk through the blocks

-- the functions of the blocks that were looked at, those of the others, and the best of the former
pub record Walk (routines : List Signature) (name : List ℕ) (args : List ArgKind) (left : List Block) (best : Option Best) : Type 0 where
  pub done : List Candidate
  pub others : List Candidate
  pub parts : done ++ others ≡ called 0 name (length args) routines
  pub blocks : AreBlocks (length args) others left
  pub seen : Sees best (narrowed 0 args (fitting args done))
  pub long : IsAsLong (length args) best

chosen_is : (routines : List Signature) (name : List ℕ) (args : List ArgKind) (cs : List Candidate) → called 0 name (length args) routines ≡ cs → chosen routines name args ≡ only (narrowed 0 args (fitting args cs))
chosen_is routines name args cs e = ap (λ l. only (narrowed 0 args l)) (candidates_fit 0 name args routines ∙ ap (fitting args) e)

pub none_called : (routines : List Signature) (name : List ℕ) (args : List ArgKind) → called 0 name (length args) routines ≡ [] → Err NoRoutine ≡ chosen routines name args
none_called routines name args e = sym (chosen_is routines name args [] e ∙ ap only (narrowed_none 0 args))

pub walk_starts : (routines : List Signature) (name : List ℕ) (args : List ArgKind) (blocks : List Block) → AreBlocks (length args) (called 0 name (length args) routines) blocks
    → Walk routines name args blocks None
walk_starts routines name args blocks are = record {
  done = [];
  others = called 0 name (length args) routines;
  parts = refl;
  blocks = are;
  seen = subst (λ cs. Sees None cs) (sym (narrowed_none 0 args)) tt;
  long = tt;
}

none_after : (cs : List Candidate) → cs ≡ [] → (ds : List Candidate) → ds ++ cs ≡ ds
none_after cs e ds = ap (λ l. ds ++ l) e ∙ none_last ds

pub walk_ends : (routines : List Signature) (name : List ℕ) (args : List ArgKind) (best : Option Best) (r : Result ℕ ChoiceFault) → Walk routines name args [] best
    → ((cs : List Candidate) → Sees best cs → r ≡ only cs) → r ≡ chosen routines name args
walk_ends routines name args best r w only_is =
    only_is (narrowed 0 args (fitting args w.done)) w.seen
    ∙ sym (chosen_is routines name args w.done (sym w.parts ∙ none_after w.others w.blocks w.done))

-- one block: what was found in it
module _ (routines : List Signature) (name : List ℕ) (args : List ArgKind) (b : Block) (left : List Block) (best : Option Best) (w : Walk routines name args (b ∷ left) best) where
  pub walk_parameters : length args ≡ length b.parameter_sets.items
  walk_parameters = sym w.blocks.3

  abbrev own : List Candidate
  own = w.blocks.0

  abbrev stay : List Candidate
  stay = narrowed 0 args (fitting args own)

  all_parts : w.done ++ (own ++ w.blocks.1) ≡ called 0 name (length args) routines
  all_parts = ap (λ l. w.done ++ l) w.blocks.2 ∙ w.parts

  own_have : HaveCount (length args) own
  own_have =
      let h : HaveCount (length args) (w.done ++ (own ++ w.blocks.1)) = subst (λ l. HaveCount (length args) l) (sym all_parts) (have_count 0 name (length args) routines) in
      (have_parts (length args) own w.blocks.1 (have_parts (length args) w.done (own ++ w.blocks.1) h).1).0

  each_stay : (P : Candidate → Type 0) → Each P own → Each P stay
  each_stay P h = each_narrowed P 0 args (fitting args own) (each_kept P P (λ c. all_go args c.1) (λ c p is. p) own h)

  stay_has : Each (λ c. Has routines c) stay
  stay_has =
      let h : Each (λ c. Has routines c) (w.done ++ (own ++ w.blocks.1)) = subst (λ l. Each (λ c. Has routines c) l) (sym all_parts) (called_has routines 0 name (length args) routines refl) in
      each_stay (λ c. Has routines c) (each_parts (λ c. Has routines c) own w.blocks.1 (each_parts (λ c. Has routines c) w.done (own ++ w.blocks.1) h).1).0

  stay_long : Each (λ c. length c.1 ≡ length args) stay
  stay_long = each_stay (λ c. length c.1 ≡ length args) (have_each (length args) own own_have)

  -- the first of those that stay
  record Head (found : Exact) : Type 0 where
    first : Candidate
    more : List Candidate
    is : stay ≡ first ∷ more
    number : found.number ≡ first.0
    tied : found.tied ≡ is_more more
    has : Has routines first
    long : length first.1 ≡ length args

  head_of : (found : Exact) → Some found ≡ exact_of stay → Head found
  head_of found e = by stay refl e stay_has stay_long
    where
      by : (cs : List Candidate) → stay ≡ cs → Some found ≡ exact_of cs → Each (λ c. Has routines c) cs → Each (λ c. length c.1 ≡ length args) cs → Head found
      by [] at e h l = cc
      by (c ∷ cs) at e h l =
          let same : found ≡ record { number = c.0; tied = is_more cs } = cc in
          record { first = c; more = cs; is = at; number = ap (λ (x : Exact). x.number) same; tied = ap (λ (x : Exact). x.tied) same; has = h.0; long = l.0 }

  some_within : (n : ℕ) (xs : List Signature) (ks : List ArgKind) → option_map (λ (s : Signature). s.kinds) (slice_get xs n) ≡ Some ks → n < length xs
  some_within n [] ks e = cc
  some_within zero (x ∷ xs) ks e = omega arith
  some_within (suc n) (x ∷ xs) ks e = let r : n < length xs = some_within n xs ks e in omega (arith, r)

  module _ (result : Option Exact) (is_best : (cs : List Candidate) → IsBlock cs b → HaveCount (length args) cs → result ≡ exact_of (narrowed 0 args (fitting args cs))) where
    found_is : result ≡ exact_of stay
    found_is = is_best own w.blocks.4 own_have

    seen_both : (best : Option Best) → Sees best (merged 0 args (narrowed 0 args (fitting args w.done)) stay) → Sees best (narrowed 0 args (fitting args (w.done ++ own)))
    seen_both best s =
        subst (λ cs. Sees best cs)
        (sym (ap (narrowed 0 args) (filter-append (λ c. all_go args c.1) w.done own) ∙ narrowed_both args (fitting args w.done) (fitting args own))) s

    next : (best : Option Best) → Sees best (merged 0 args (narrowed 0 args (fitting args w.done)) stay) → IsAsLong (length args) best → Walk routines name args left best
    next best s l = record {
      done = w.done ++ own;
      others = w.blocks.1;
      parts = append_assoc w.done own w.blocks.1 ∙ all_parts;
      blocks = w.blocks.5;
      seen = seen_both best s;
      long = l;
    }

    merged_none : (bs cs : List Candidate) → cs ≡ [] → bs ≡ merged 0 args bs cs
    merged_none [] cs e = sym e
    merged_none (b ∷ bs) cs e = sym (ap (merged 0 args (b ∷ bs)) e)

    none_stay : (cs : List Candidate) → None ≡ exact_of cs → cs ≡ []
    none_stay [] e = refl
    none_stay (c ∷ cs) e = cc

    pub walk_passes : result ≡ None → Walk routines name args left best
    walk_passes none =
        next best (subst (λ cs. Sees best cs) (merged_none (narrowed 0 args (fitting args w.done)) stay (none_stay stay (sym none ∙ found_is))) w.seen) w.long

    module _ (found : Exact) (some : result ≡ Some found) where
      head : Head found
      head = head_of found (sym some ∙ found_is)

      pub walk_within : found.number < length routines
      walk_within = some_within found.number routines head.first.1 (subst (λ n. option_map (λ (s : Signature). s.kinds) (slice_get routines n) ≡ Some head.first.1) (sym head.number) head.has)

      module _ (kinds : List ArgKind) (got : option_map (λ (s : Signature). s.kinds) (slice_get routines found.number) ≡ Some kinds) where
        kinds_are : kinds ≡ head.first.1
        kinds_are =
            let e : Some kinds ≡ Some head.first.1 = sym got ∙ ap (λ n. option_map (λ (s : Signature). s.kinds) (slice_get routines n)) head.number ∙ head.has in
            cc

        pub walk_long : length kinds ≡ length args
        walk_long = ap length kinds_are ∙ head.long

        pub walk_takes : (alone better : Best) → alone.number ≡ found.number → alone.kinds.now ≡ kinds → alone.tied ≡ found.tied
            → ((bs cs : List Candidate) → Sees best bs → Sees (Some alone) cs → Sees (Some better) (merged 0 args bs cs)) → length better.kinds.now ≡ length args
            → Walk routines name args left (Some better)
        walk_takes alone better number is tied takes long =
            next (Some better)
            (takes (narrowed 0 args (fitting args w.done)) stay w.seen
            (subst (λ cs. Sees (Some alone) cs) (sym head.is) (number ∙ head.number, is ∙ kinds_are, tied ∙ head.tied)))
            long
