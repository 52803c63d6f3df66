use Rattle.std.proofs.Common.{◌≡◌, ◌+◌, ◌∷◌, ◌∙◌, false, get_or, drop, add-one, refl, ap, subst}
use Rattle.std.proofs.Math.Seq.{drop-cons}
use Rattle.psm_tree.specs.declared.file.Characteristic.{Characteristic}
use Rattle.psm_tree.specs.declared.file.CharacteristicForm.TheVariants.{Language}
use Rattle.psm_rules.specs.Faults.{earlier}
use Rattle.psm_check_stmt.proofs.Noted.{Noted, noted_next}
use Rattle.psm_check_stmt.proofs.routines.characteristics_fault.Goals as goal

pub loop-characteristic-preserved : goal.loop-characteristic-preserved
loop-characteristic-preserved c =
    let characteristics = c.args.characteristics.now in
    let i = c.loop-characteristic.characteristic-index in
    let d : Characteristic = record { place = record { line = 0; column = 0 }; form = Language } in
    let n : Characteristic = get_or characteristics i d in
    let number = c.characteristic_number-number.result in
    let rest : drop i characteristics ≡ n ∷ drop (i + 1) characteristics = rw add-one (drop-cons characteristics i d c.loop-characteristic-test.true) in
    noted_next c.loop-characteristic.seen c.loop-characteristic.fault c.earlier-fault.result n (drop (i + 1) characteristics) characteristics number (get_or c.loop-characteristic.seen number false)
    c.characteristic_number-number.ensures.number c.characteristic_number-number.ensures.few refl
    (c.earlier-fault.ensures ∙ ap (earlier c.loop-characteristic.fault) c.breaks_if.ensures)
    (subst (λ l. Noted c.loop-characteristic.seen c.loop-characteristic.fault l characteristics) rest c.loop-characteristic.invariant)
