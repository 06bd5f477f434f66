use Rattle.std.proofs.Common.{◌≡◌, ℕ, ◌<◌, ◌++◌, [], ◌∷◌, List, Some, None, true, false, length, sym, ap, ◌∙◌, subst, arith}
use Rattle.std.specs.Prelude.{IsTrue, slice_get, is_some}
use Rattle.cd_types.specs.declared.entry.Entry.{Entry}
use Rattle.cd_types.specs.IsTable.{is_table}
use Rattle.cd_part.specs.Places.{place_of}
use Rattle.cd_part.specs.Meets.{again}
use Rattle.cd_part.proofs.Placing.{there}
use Rattle.cd_part.proofs.OneMet.{entry_meets, entry_fewer, entry_inside}
use Rattle.cd_part.proofs.Closed.{some_there, none_there}
use Rattle.cd_part.proofs.meeting.Meeting.meet_entry.Goals as goal

pub unreachable-requires : goal.unreachable-requires
unreachable-requires c =
    let n = c.args.number in
    let table = c.self.inside.table.now in
    let below : n < length table = omega (arith, ap (λ (v : List Entry × List ℕ). length v.0) c.self.view_is, c.requires.inside) in
    let at = there {A = Entry} table n below in
    let none : slice_get table n ≡ None = sym c.in-None.ensures.value in
    let is : slice_get table n ≡ Some at.0 = at.1 in
    absurd (cc)

pub returns-then-is_some-clause-meets : goal.returns-then-is_some-clause-meets
returns-then-is_some-clause-meets c =
    let n = c.args.number in
    let met = c.args.self.now.1 in
    let placed : is_some (place_of met n) ≡ true = cc in
    let at = some_there (place_of met n) placed in
    λ after more. again at.0 at.1 more

pub returns-clause-meets : goal.returns-clause-meets
returns-clause-meets c =
    let n = c.args.number in
    let table = c.args.self.now.0 in
    let met = c.args.self.now.1 in
    let entry = c.in-Some.entry.now in
    let at : slice_get table n ≡ Some entry = ap (λ (v : List Entry × List ℕ). slice_get v.0 n) (sym c.self.view_is) ∙ sym c.in-Some.ensures.value in
    let missing : is_some (place_of met n) ≡ false = cc in
    let none = none_there (place_of met n) missing in
    let is : c.note.new.self.1 ≡ met ++ n ∷ [] = c.in_ok-note-in-Some.ensures.met in
    entry_meets table n entry at met c.note.new.self.1 c.args.todo.now c.push_parts.new.todo none is c.in_ok-push_parts-in-Some.ensures

pub returns-clause-fewer : goal.returns-clause-fewer
returns-clause-fewer c =
    let n = c.args.number in
    let table = c.args.self.now.0 in
    let met = c.args.self.now.1 in
    let entry = c.in-Some.entry.now in
    let at : slice_get table n ≡ Some entry = ap (λ (v : List Entry × List ℕ). slice_get v.0 n) (sym c.self.view_is) ∙ sym c.in-Some.ensures.value in
    let missing : is_some (place_of met n) ≡ false = cc in
    let none = none_there (place_of met n) missing in
    let is : c.note.new.self.1 ≡ met ++ n ∷ [] = c.in_ok-note-in-Some.ensures.met in
    entry_fewer table n entry at met c.note.new.self.1 c.args.todo.now c.push_parts.new.todo none is c.in_ok-push_parts-in-Some.ensures

pub returns-clause-inside : goal.returns-clause-inside
returns-clause-inside c =
    let n = c.args.number in
    let table = c.args.self.now.0 in
    let met = c.args.self.now.1 in
    let entry = c.in-Some.entry.now in
    let at : slice_get table n ≡ Some entry = ap (λ (v : List Entry × List ℕ). slice_get v.0 n) (sym c.self.view_is) ∙ sym c.in-Some.ensures.value in
    let formed = subst (λ (v : List Entry × List ℕ). IsTrue (is_table v.0)) c.self.view_is c.in-Some.ensures.well_formed in
    entry_inside table n entry at formed c.args.todo.now c.push_parts.new.todo c.in_ok-push_parts-in-Some.ensures
