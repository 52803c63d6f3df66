use Rattle.std.proofs.Common.{List, refl, ap, sym, subst, ◌∙◌, None, Ok}
use Rattle.psm_value.specs.declared.datum.Datum.{Datum}
use Rattle.psm_table.specs.Cursors.{Cursor, Closed, Plain, Insensitive}
use Rattle.psm_cursor.specs.declared.cursor.Cursor.TheInside.{Inside}
use Rattle.psm_cursor.specs.Fetching.{Fetches, moved}
use Rattle.psm_cursor.specs.States.{cursor_of}
use Rattle.psm_cursor.proofs.Fetched.{fetches_next, fetches_plain, fetches_same}
use Rattle.psm_cursor.proofs.cursor.Cursor.next_of.Goals as goal
use Rattle.psm_cursor.proofs.cursor.Cursor.next_of.Goals.{in-Closed, in-Insensitive, in-Plain}

abbrev viewed : Inside → Cursor
viewed inside = cursor_of inside.state

pub returns-clause-fetches : goal.returns-clause-fetches
returns-clause-fetches c =
    let query = c.args.query.now in
    let t = c.args.table.now.contents in
    elim c.match-self.branch [
      | in-Closed w ↦ fetches_same query t c.args.self.now Closed (cursor_of c.match-self.self-inside.state) Closed c.match-self.result (Ok None)
          (sym c.self.view_is ∙ ap cursor_of w.in-Closed.is) (ap viewed w.self-inside-is ∙ ap cursor_of w.in-Closed.is) w.result-is (refl, refl)
      | in-Insensitive w ↦ fetches_same query t c.args.self.now (Insensitive w.in-Insensitive.rows.items) (cursor_of c.match-self.self-inside.state) (Insensitive w.pop_front.new.self.items)
          c.match-self.result (Ok w.pop_front.result) (sym c.self.view_is ∙ ap cursor_of w.in-Insensitive.is) (ap viewed w.self-inside-is) w.result-is
          (fetches_next query t w.in-Insensitive.rows.items w.pop_front.new.self.items w.pop_front.result w.pop_front.ensures.items w.pop_front.ensures.rest)
      | in-Plain w ↦ fetches_same query t c.args.self.now (Plain w.in-Plain.position w.in-Plain.vars.items) (cursor_of c.match-self.self-inside.state) (Plain w.fetch.new.position w.in-Plain.vars.items)
          c.match-self.result w.fetch.result (sym c.self.view_is ∙ ap cursor_of w.in-Plain.is) (ap viewed w.self-inside-is) w.result-is
          (fetches_plain query t w.in-Plain.vars.items w.in-Plain.position w.fetch.new.position w.fetch.result
          (subst (λ (vars : List Datum). Fetches (moved query t vars w.in-Plain.position) w.in-Plain.position w.fetch.new.position w.fetch.result) w.as_slice.ensures.value w.fetch.ensures.fetches))
    ]
