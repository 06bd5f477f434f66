-- What a text says of the file that it is.
use Rattle.std.proofs.Common.{◌≡◌, ℕ, ◌≤◌, Bool, true, false, List, [], length, map, Option, Some, None, Result, Ok, Err, refl, sym, ap, subst, ◌∙◌, arith}
use Rattle.std.specs.Prelude.{nat_lt, option_map, IfOk, if◌then◌else◌}
use Rattle.std.specs.Cmp.Lexicographic.{slice_cmp}
use Rattle.std.specs.Ordering.{nat_cmp}
use Rattle.std.proofs.lemmas.List.{length-map}
use Rattle.std.proofs.lemmas.Option.{slice_get-map}
use Rattle.cd_grammar.specs.declared.written.Written.{Written}
use Rattle.cd_grammar.specs.declared.written.Written.TheVariants.{Opt, Seq, Rec, Var, Func, Service}
use Rattle.cd_grammar.specs.File.{File}
use Rattle.cd_grammar.specs.Fits.{FitsFile}
use Rattle.cd_grammar.specs.Grammar.{IsFile}
use Rattle.cd_grammar.proofs.Fits.{file_fits}
use Rattle.cd_did.specs.declared.fault.DidFault.{DidFault}
use Rattle.cd_did.specs.declared.fault.DidFault.TheVariants.{Float, Unbound, Shape, TooMany, NoMemory}
use Rattle.cd_did.specs.declared.fault.Interface.{Interface}
use Rattle.cd_did.specs.Answers.{HasNoFloat, HasOneEach, HasAll, HasTypes, HasShapes, Answers}
use Rattle.cd_did.specs.Faults.{all_parts, is_no_float, is_bound, repeated}
use Rattle.cd_did.specs.Rings.{is_named_at, least_from}
use Rattle.cd_did.specs.Sorted.{row}
use Rattle.cd_did.specs.Interfaces.{IsWithin}
use Rattle.cd_did.specs.InterfaceOf.{file_in, ends_of, in_order, entry_of, interface_of, are_formed, shape_fault, unless_vacuous, bound_fault, unless_repeated, fault_of, unless, interface_at, interface_in}
use Rattle.cd_did.proofs.ApartLemmas.{apart, all_bound}
use Rattle.cd_did.proofs.Ends.{vacuous_found}
use Rattle.cd_did.proofs.InOrder.{in_order_moves}
use Rattle.cd_did.proofs.Stands.{IsLike, AreLike}
use Rattle.cd_did.proofs.Interfaces.{made_stands}
use Rattle.cd_did.proofs.Decided.{shaped_is, is_shaped}
use Rattle.cd_did.proofs.SettledLemmas.{settled_ok}
use Rattle.cd_did.proofs.Said.{has_ends, ended, file_found, file_is}

-- ---- the entries of a file's types

like : (file : File) (ends : List ℕ) (w : Written) → IsLike file ends w (entry_of file.definitions ends w)
like file ends (Opt part) = refl
like file ends (Seq part) = refl
like file ends (Rec fields) = (in_order nat_cmp (map (row file.definitions ends) fields), refl, in_order_moves nat_cmp (map (row file.definitions ends) fields))
like file ends (Var cases) = (in_order nat_cmp (map (row file.definitions ends) cases), refl, in_order_moves nat_cmp (map (row file.definitions ends) cases))
like file ends (Func args results notes) = refl
like file ends (Service methods) =
    (in_order (slice_cmp nat_cmp) (map (row file.definitions ends) methods), refl, in_order_moves (slice_cmp nat_cmp) (map (row file.definitions ends) methods))

pub are_like : (file : File) (ends : List ℕ) → AreLike file ends (map (entry_of file.definitions ends) file.types)
are_like file ends i w at =
    (entry_of file.definitions ends w, slice_get-map (entry_of file.definitions ends) file.types i ∙ ap (option_map (entry_of file.definitions ends)) at, like file ends w)

-- ---- what is said of a file

-- its first fault or an interface that stands for it, and never that memory ran out
abbrev pub Told : File → Result Interface DidFault → Type 0
Told file said = Answers file said × IfOk said IsWithin × (said ≡ Err NoMemory → ⊥)

stood : (file : File) → FitsFile file → HasShapes file → length file.types ≤ 10000 → Told file (Ok (interface_of file))
stood file fits shapes few =
    let made = map (entry_of file.definitions (ends_of file.definitions)) file.types in
    let stands = made_stands file (ends_of file.definitions) made (ended file shapes.0) fits (length-map file.types (entry_of file.definitions (ends_of file.definitions))) (are_like file (ends_of file.definitions)) few in
    ((shapes, few, stands.0), stands.1, λ e. absurd cc)

by_shape : (file : File) → FitsFile file → HasTypes file → (formed : Bool) → are_formed file (ends_of file.definitions) ≡ formed → (many : Bool) → nat_lt 10000 (length file.types) ≡ many
    → Told file (unless (if formed then (if many then Some TooMany else None) else Some Shape) (interface_of file))
by_shape file fits types false e many f =
    ((types, λ shaped. let k : true ≡ false = sym (is_shaped file (ends_of file.definitions) (ended file types) shaped) ∙ e in absurd cc), tt, λ e. absurd cc)
by_shape file fits types true e true f = (((types, shaped_is file (ends_of file.definitions) (ended file types) e), grind (arith, f)), tt, λ e. absurd cc)
by_shape file fits types true e false f = stood file fits (types, shaped_is file (ends_of file.definitions) (ended file types) e) (grind (arith, f))

by_ring : (file : File) → FitsFile file → HasAll file → (found : Option ℕ) → least_from (is_named_at file.definitions) None (ends_of file.definitions) ≡ found
    → Told file (unless (unless_vacuous found (shape_fault file)) (interface_of file))
by_ring file fits all None e =
    let types = (settled_ok file (ends_of file.definitions) all.0.0 all.0.1 all.1 (has_ends file.definitions) e).0 in
    by_shape file fits types (are_formed file (ends_of file.definitions)) refl (nat_lt 10000 (length file.types)) refl
by_ring file fits all (Some place) e =
    ((all, vacuous_found file.definitions (apart file.definitions all.0.1) (all_bound file all.1) (ends_of file.definitions) (has_ends file.definitions) place e), tt, λ e. absurd cc)

by_names : (file : File) → FitsFile file → HasOneEach file → (bound : Bool) → all_parts (is_bound file.definitions) file ≡ bound
    → Told file (unless (if bound then unless_vacuous (least_from (is_named_at file.definitions) None (ends_of file.definitions)) (shape_fault file) else Some Unbound) (interface_of file))
by_names file fits once true e = by_ring file fits (once, e) (least_from (is_named_at file.definitions) None (ends_of file.definitions)) refl
by_names file fits once false e = ((once, e), tt, λ e. absurd cc)

by_definitions : (file : File) → FitsFile file → HasNoFloat file → (found : Option ℕ) → repeated [] 0 file.definitions ≡ found → Told file (unless (unless_repeated found (bound_fault file)) (interface_of file))
by_definitions file fits floats None e = by_names file fits (floats, e) (all_parts (is_bound file.definitions) file) refl
by_definitions file fits floats (Some place) e = ((floats, e), tt, λ e. absurd cc)

by_floats : (file : File) → FitsFile file → (none : Bool) → all_parts is_no_float file ≡ none
    → Told file (unless (if none then unless_repeated (repeated [] 0 file.definitions) (bound_fault file) else Some Float) (interface_of file))
by_floats file fits true e = by_definitions file fits e (repeated [] 0 file.definitions) refl
by_floats file fits false e = (e, tt, λ e. absurd cc)

pub told : (file : File) → FitsFile file → Told file (unless (fault_of file) (interface_of file))
unfolding fault_of
told file fits = by_floats file fits (all_parts is_no_float file) refl

-- ---- what a text says

pub text_told : (file : File) (text : List ℕ) → IsFile file text → Told file (interface_in text)
unfolding interface_in
text_told file text is = subst (λ (f : Option File). Told file (interface_at f)) (sym (file_is text file is)) (told file (file_fits file text is))

-- and whatever the text is
pub some_told : (text : List ℕ) → IfOk (interface_in text) IsWithin × (interface_in text ≡ Err NoMemory → ⊥)
unfolding interface_in
some_told text = by (file_in text) refl
  where
    by : (found : Option File) → file_in text ≡ found → IfOk (interface_at found) IsWithin × (interface_at found ≡ Err NoMemory → ⊥)
    by None e = (tt, λ e. absurd cc)
    by (Some file) e = let says = told file (file_fits file text (file_found text file e)) in (says.1, says.2)
