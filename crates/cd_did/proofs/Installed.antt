-- The types that a service is installed with.
use Rattle.std.proofs.Common.{◌≡◌, ℕ, ◌≤◌, true, List, [], ◌∷◌, length, map, Option, Some, None, Result, Ok, Err, refl, sym, subst}
use Rattle.std.specs.Prelude.{IfOk}
use Rattle.std.specs.List.{list_all}
use Rattle.std.proofs.lemmas.List.{length-map}
use Rattle.cd_types.specs.declared.entry.Entry.{Entry}
use Rattle.cd_types.specs.IsInside.{is_inside}
use Rattle.cd_types.proofs.FaultLemmas.{both_true}
use Rattle.cd_grammar.specs.declared.written.Part.{Part}
use Rattle.cd_grammar.specs.declared.written.Main.{Main}
use Rattle.cd_grammar.specs.File.{File}
use Rattle.cd_grammar.specs.Fits.{all_in_main, FitsFile}
use Rattle.cd_grammar.specs.Grammar.{IsFile}
use Rattle.cd_grammar.proofs.Fits.{file_fits}
use Rattle.cd_did.specs.declared.fault.DidFault.{DidFault}
use Rattle.cd_did.specs.declared.fault.Interface.{Interface}
use Rattle.cd_did.specs.Answers.{HasShapes, Answers}
use Rattle.cd_did.specs.Denotes.{PartsStand, StandsFor, tuple_of, InitStands}
use Rattle.cd_did.specs.Interfaces.{IsInitWithin}
use Rattle.cd_did.specs.InterfaceOf.{file_in, ends_of, entry_of, interface_of, fault_of, unless, interface_at, interface_in}
use Rattle.cd_did.specs.Targets.{target}
use Rattle.cd_did.proofs.Interfaces.{known, fine}
use Rattle.cd_did.proofs.Said.{ended, file_found, file_is}
use Rattle.cd_did.proofs.Stands.{Known, Fine, is_fine, AreLike, all_stand}
use Rattle.cd_did.proofs.Tables.{all_mapped, all_wider, target_within}
use Rattle.cd_did.proofs.Told.{are_like, told}

parts_stand : (file : File) (ends : List ℕ) (made : List Entry) → Known file.definitions ends → Fine file → AreLike file ends made → length file.types ≤ 10000 → (parts : List Part) → list_all (is_fine file) parts ≡ true
    → PartsStand (StandsFor file made) parts (map (target file.definitions ends) parts)
parts_stand file ends made know all like few [] e = refl
parts_stand file ends made know all like few (part ∷ parts) e =
    let h = both_true (is_fine file part) (list_all (is_fine file) parts) e in
    (target file.definitions ends part, map (target file.definitions ends) parts, refl, λ n. all_stand n file ends made know all like few part h.0, parts_stand file ends made know all like few parts h.1)

tuple_fine : (file : File) (main : Option Main) → all_in_main (is_fine file) main ≡ true → list_all (is_fine file) (tuple_of main) ≡ true
tuple_fine file None e = refl
tuple_fine file (Some main) e = (both_true (list_all (is_fine file) main.tuple) (is_fine file main.service) e).0

abbrev Installed : File → Interface → Type 0
Installed file interface = InitStands file interface.table interface.init × IsInitWithin interface

-- those of the file's interface stand for the file's
installed : (file : File) → FitsFile file → HasShapes file → length file.types ≤ 10000 → Installed file (interface_of file)
installed file fits shapes few =
    let ends = ends_of file.definitions in
    let know = known file ends (ended file shapes.0) in
    let all = fine file shapes.0 fits in
    let parts = tuple_fine file file.main all.1 in
    let size = length-map file.types (entry_of file.definitions ends) in (
      parts_stand file ends (map (entry_of file.definitions ends) file.types) know all.0 (are_like file ends) few (tuple_of file.main) parts,
      subst (λ (n : ℕ). list_all (is_inside n) (map (target file.definitions ends) (tuple_of file.main)) ≡ true) (sym size)
          (all_mapped (is_inside (length file.types)) (target file.definitions ends) (tuple_of file.main)
          (all_wider (is_fine file) (λ p. is_inside (length file.types) (target file.definitions ends p)) (tuple_of file.main) (target_within file ends know all.0 few) parts)),
    )

abbrev IsOf : File → Result Interface DidFault → Type 0
IsOf file result = IfOk result (λ interface. interface ≡ interface_of file)

pub init_stands : (file : File) (result : Result Interface DidFault) → FitsFile file → Answers file result → IfOk result (λ interface. interface ≡ interface_of file) → IfOk result (λ interface. InitStands file interface.table interface.init)
init_stands file (Ok interface) fits has is = (subst (Installed file) (sym is) (installed file fits has.0 has.1)).0
init_stands file (Err fault) fits has is = tt

pub init_within : (file : File) (result : Result Interface DidFault) → FitsFile file → Answers file result → IfOk result (λ interface. interface ≡ interface_of file) → IfOk result IsInitWithin
init_within file (Ok interface) fits has is = (subst (Installed file) (sym is) (installed file fits has.0 has.1)).1
init_within file (Err fault) fits has is = tt

-- ---- what a text says

said_of : (file : File) (fault : Option DidFault) → IsOf file (unless fault (interface_of file))
said_of file None = refl
said_of file (Some fault) = tt

pub text_installed : (file : File) (text : List ℕ) → IsFile file text → IfOk (interface_in text) (λ interface. InitStands file interface.table interface.init)
unfolding interface_in
text_installed file text is =
    let fits = file_fits file text is in
    subst (λ (f : Option File). IfOk (interface_at f) (λ interface. InitStands file interface.table interface.init)) (sym (file_is text file is))
    (init_stands file (unless (fault_of file) (interface_of file)) fits (told file fits).0 (said_of file (fault_of file)))

pub text_init_within : (text : List ℕ) → IfOk (interface_in text) IsInitWithin
unfolding interface_in
text_init_within text = by (file_in text) refl
  where
    by : (found : Option File) → file_in text ≡ found → IfOk (interface_at found) IsInitWithin
    by None e = tt
    by (Some file) e = let fits = file_fits file text (file_found text file e) in init_within file (unless (fault_of file) (interface_of file)) fits (told file fits).0 (said_of file (fault_of file))
