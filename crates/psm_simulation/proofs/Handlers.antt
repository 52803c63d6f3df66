-- The handler that the code finds is the one that the meaning chooses.
use Rattle.std.proofs.Common.{◌≡◌, inl, inr, ℕ, Bool, true, false, ◌&&◌, List, [], ◌∷◌, map, refl, ap, sym, ◌∙◌, subst, Option, Some, None, if◌then◌else◌}
use Rattle.std.specs.Prelude.{nat_le, nat_lt, max}
use Rattle.psm_cond.specs.Choice.{chosen, chosen_in, highest, or_else, rank}
use Rattle.psm_cond.specs.Handlers.{Numbered, handler_rank}
use Rattle.psm_cond.specs.declared.entry.Entry.{Entry}
use Rattle.psm_cond.specs.declared.handlers.Handler.{Handler}
use Rattle.psm_resolved.specs.declared.file.ResolvedFile.{ResolvedFile}
use Rattle.psm_resolved.specs.declared.file.ResolvedRoutine.{ResolvedRoutine}
use Rattle.psm_resolved.specs.declared.statement.ResolvedHandler.{ResolvedHandler}
use Rattle.psm_meaning.specs.Raising.{Candidate, candidate_rank, choice}
use Rattle.psm_code.specs.declared.code.RawCode.{RawCode}
use Rattle.psm_code.specs.declared.code.RawRoutine.{RawRoutine}
use Rattle.psm_simulation.specs.Env.{Visible, scope_of}
use Rattle.psm_simulation.specs.Scheme.{Asks, Handles, IsHandler, handler, no_handler, with_handlers}
use Rattle.psm_simulation.specs.Agreement.{Acts, AllHandle, AllKept, IsVisible, ReachAll, Reaches, Standing, owns}

abbrev pub candidate : Visible → List Visible → ResolvedHandler → Candidate
candidate v outer h = record { handler = h; scope = scope_of v; outside = map scope_of outer }

-- the two choices in a block
abbrev Matches : ResolvedFile → RawCode → ResolvedRoutine → RawRoutine → Visible → List Visible → Option Candidate → Option Numbered → Type 0
Matches file code routine r v outer None None = Unit {0}
Matches file code routine r v outer None (Some p) = ⊥
Matches file code routine r v outer (Some c) None = ⊥
Matches file code routine r v outer (Some c) (Some p) = (c ≡ candidate v outer c.handler) × Acts file code routine r outer v c.handler p.0 p.1

module _ (file : ResolvedFile) (code : RawCode) (routine : ResolvedRoutine) (r : RawRoutine) (e : Entry) where
  same-rank : (v : Visible) (outer : List Visible) (h : ResolvedHandler) (n : ℕ) (coded : Handler) (k : ℕ) → IsHandler r outer v h n coded k → candidate_rank e (candidate v outer h) ≡ handler_rank e (n, coded)
  same-rank v outer h n coded k i = ap (highest (rank e)) (sym i.values)

  same-highest : {v : Visible} {outer : List Visible} {hs : List ResolvedHandler} {coded : List Numbered} → Handles file code routine r outer v hs coded
      → highest (candidate_rank e) (map (candidate v outer) hs) ≡ highest (handler_rank e) coded
  same-highest no_handler = refl
  same-highest (handler {outer = outer} {v = v} {h = h} {hs = hs} {n = n} {coded = coded} {others = others} k i action ends more) =
      ap (λ m. max m (highest (candidate_rank e) (map (candidate v outer) hs))) (same-rank v outer h n coded k i) ∙ ap (max (handler_rank e (n, coded))) (same-highest more)

  picked : (v : Visible) (outer : List Visible) (b : Bool) (c : Candidate) (p : Numbered) (x : Option Candidate) (y : Option Numbered) → Matches file code routine r v outer (Some c) (Some p) → Matches file code routine r v outer x y
      → Matches file code routine r v outer (if b then Some c else x) (if b then Some p else y)
  picked v outer true c p x y h k = h
  picked v outer false c p x y h k = k

  matches-in : {v : Visible} {outer : List Visible} {hs : List ResolvedHandler} {coded : List Numbered} → Handles file code routine r outer v hs coded
      → Matches file code routine r v outer (chosen_in (candidate_rank e) (map (candidate v outer) hs)) (chosen_in (handler_rank e) coded)
  matches-in no_handler = tt
  matches-in (handler {outer = outer} {v = v} {h = h} {hs = hs} {n = n} {coded = coded} {others = others} {last = last} k i action ends more) =
      let x = chosen_in (candidate_rank e) (map (candidate v outer) hs) in
      let y = chosen_in (handler_rank e) others in
      let b = nat_lt 0 (candidate_rank e (candidate v outer h)) && nat_le (highest (candidate_rank e) (map (candidate v outer) hs)) (candidate_rank e (candidate v outer h)) in
      let same : b ≡ (nat_lt 0 (handler_rank e (n, coded)) && nat_le (highest (handler_rank e) others) (handler_rank e (n, coded))) =
      ap (λ k. nat_lt 0 k && nat_le (highest (candidate_rank e) (map (candidate v outer) hs)) k) (same-rank v outer h n coded k i)
      ∙ ap (λ k. nat_lt 0 (handler_rank e (n, coded)) && nat_le k (handler_rank e (n, coded))) (same-highest more) in
      subst (λ c. Matches file code routine r v outer (if b then Some (candidate v outer h) else x) (if c then Some (n, coded) else y)) same
      (picked v outer b (candidate v outer h) (n, coded) x y (refl, record { context = k; last = last; handler = i; action = action; ends = ends }) (matches-in more))

-- ---- in all blocks

-- the handler that is chosen, its block, and what is visible and entered outside it
pub record Chosen (file : ResolvedFile) (code : RawCode) (routine : ResolvedRoutine) (r : RawRoutine) (standing : List Standing) (visible : List Visible) (c : Candidate) (p : Numbered) : Type 0 where
  pub block : Visible
  pub outer : List Visible
  pub same : c ≡ candidate block outer c.handler
  pub acts : Acts file code routine r outer block c.handler p.0 p.1
  pub handle : AllHandle file code routine r outer
  pub reached : ReachAll outer standing
  pub kept : AllKept (block ∷ outer) (owns standing)
  pub reaches : Reaches block outer standing
  pub own : IsVisible block.level visible
  pub others : (l : ℕ) → IsVisible l outer → IsVisible l visible

abbrev pub Agrees : ResolvedFile → RawCode → ResolvedRoutine → RawRoutine → List Standing → List Visible → Option Candidate → Option Numbered → Type 0
Agrees file code routine r standing visible None None = Unit {0}
Agrees file code routine r standing visible None (Some p) = ⊥
Agrees file code routine r standing visible (Some c) None = ⊥
Agrees file code routine r standing visible (Some c) (Some p) = Chosen file code routine r standing visible c p

further : (file : ResolvedFile) (code : RawCode) (routine : ResolvedRoutine) (r : RawRoutine) (standing : List Standing) (v : Visible) (outer : List Visible) (x : Option Candidate) (y : Option Numbered)
    → Agrees file code routine r standing outer x y → Agrees file code routine r standing (v ∷ outer) x y
further file code routine r standing v outer None None g = g
further file code routine r standing v outer None (Some p) g = g
further file code routine r standing v outer (Some c) None g = g
further file code routine r standing v outer (Some c) (Some p) g =
    record { block = g.block; outer = g.outer; same = g.same; acts = g.acts; handle = g.handle; reached = g.reached; kept = g.kept; reaches = g.reaches; own = inr g.own; others = λ l x. inr (g.others l x) }

first-found : (file : ResolvedFile) (code : RawCode) (routine : ResolvedRoutine) (r : RawRoutine) (standing : List Standing) (v : Visible) (outer : List Visible) (x : Option Candidate) (y : Option Numbered) (others : Option Candidate) (more : Option Numbered)
    → AllHandle file code routine r outer → ReachAll outer standing → AllKept (v ∷ outer) (owns standing) → Reaches v outer standing → Matches file code routine r v outer x y → Agrees file code routine r standing outer others more → Agrees file code routine r standing (v ∷ outer) (or_else x others) (or_else y more)
first-found file code routine r standing v outer None None others more a s k t m q = further file code routine r standing v outer others more q
first-found file code routine r standing v outer None (Some p) others more a s k t m q = absurd m
first-found file code routine r standing v outer (Some c) None others more a s k t m q = absurd m
first-found file code routine r standing v outer (Some c) (Some p) others more a s k t m q = record { block = v; outer = outer; same = m.0; acts = m.1; handle = a; reached = s; kept = k; reaches = t; own = inl refl; others = λ l x. inr x }

pub agrees : (file : ResolvedFile) (code : RawCode) (routine : ResolvedRoutine) (r : RawRoutine) (e : Entry) (standing : List Standing) (visible : List Visible) → AllHandle file code routine r visible → ReachAll visible standing → AllKept visible (owns standing)
    → Agrees file code routine r standing visible (choice e (map scope_of visible)) (chosen (handler_rank e) (map (λ v. v.coded) visible))
agrees file code routine r e standing [] a s k = tt
agrees file code routine r e standing (v ∷ outer) a s k =
    first-found file code routine r standing v outer (chosen_in (candidate_rank e) (map (candidate v outer) v.handlers)) (chosen_in (handler_rank e) v.coded)
    (choice e (map scope_of outer)) (chosen (handler_rank e) (map (λ v. v.coded) outer)) a.1 s.1 k s.0 (matches-in file code routine r e a.0) (agrees file code routine r e standing outer a.1 s.1 k.1)

-- ---- blocks that have no handlers are passed over

pub chosen-with_handlers : (f : Numbered → ℕ) (blocks : List (List Numbered)) → chosen f blocks ≡ chosen f (with_handlers blocks)
chosen-with_handlers f [] = refl
chosen-with_handlers f ([] ∷ blocks) = chosen-with_handlers f blocks
chosen-with_handlers f ((h ∷ hs) ∷ blocks) = ap (or_else (chosen_in f (h ∷ hs))) (chosen-with_handlers f blocks)

pub chosen-asked : (f : Numbered → ℕ) (blocks : List (List Numbered)) (visible : List Visible) → Asks blocks visible → chosen f blocks ≡ chosen f (map (λ v. v.coded) visible)
chosen-asked f blocks visible a = chosen-with_handlers f blocks ∙ ap (chosen f) a ∙ sym (chosen-with_handlers f (map (λ v. v.coded) visible))
