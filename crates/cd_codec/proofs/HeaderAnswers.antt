-- What is read at the front of a message is the one header there.
use Rattle.std.proofs.Common.{◌≡◌, ℕ, ◌-◌, ◌≤◌, Bool, true, List, ◌++◌, length, take, Some, None, sym, ap, subst, ◌∙◌, arith}
use Rattle.std.proofs.lemmas.List.{length-append, take_at}
use Rattle.ic_base.proofs.Steps.{some_is}
use Rattle.ic_base.proofs.Exact.{taken, one_spelling}
use Rattle.cd_types.specs.declared.entry.TyRef.{TyRef}
use Rattle.cd_types.specs.declared.entry.Entry.{Entry}
use Rattle.cd_codec.specs.declared.fault.HeaderFault.{HeaderFault}
use Rattle.cd_codec.specs.declared.fault.HeaderFault.TheVariants as faults
use Rattle.std.specs.Prelude.{Result, Err, ◌↔◌}
use Rattle.cd_codec.specs.declared.header.Header.{Header}
use Rattle.cd_codec.specs.IsHeader.{IsHeader}
use Rattle.cd_codec.specs.Answers.{BeginsWithHeader, IsFault}
use Rattle.cd_codec.specs.ReadHeader.{header_at}
use Rattle.cd_codec.proofs.HeaderLaws.{SpellsHeader, header_exact}
use Rattle.cd_codec.proofs.ValueAgain.{not_none}

abbrev Found : Type 0
Found = (List Entry × List TyRef) × List ℕ

abbrev failed : HeaderFault → Result Header HeaderFault
failed fault = Err fault

-- the faults of two answers that are one
pub same_fault : (fault other : HeaderFault) → failed fault ≡ failed other → fault ≡ other
same_fault fault other e = cc

pub rest_within : (floats : Bool) (bytes : List ℕ) (x : Found) → header_at floats bytes ≡ Some x → length x.1 ≤ length bytes
rest_within floats bytes x e =
    let t = taken (SpellsHeader floats) (header_at floats) (header_exact floats) bytes x e in
    omega (arith, ap length t.parts, length-append t.front x.1)

pub header_found : (floats : Bool) (bytes : List ℕ) (x : Found) → header_at floats bytes ≡ Some x
    → (length bytes - length x.1 ≤ length bytes) × IsHeader floats x.0.0 x.0.1 (take (length bytes - length x.1) bytes)
header_found floats bytes x e =
    let t = taken (SpellsHeader floats) (header_at floats) (header_exact floats) bytes x e in
    let size : length t.front ≡ length bytes - length x.1 = omega (arith, ap length t.parts, length-append t.front x.1) in
    let front : take (length bytes - length x.1) bytes ≡ t.front = ap (take (length bytes - length x.1)) t.parts ∙ take_at t.front x.1 (length bytes - length x.1) size in
    (omega arith, subst (IsHeader floats x.0.0 x.0.1) (sym front) t.spelled)

again : (floats : Bool) (bytes : List ℕ) (table : List Entry) (types : List TyRef) (front rest : List ℕ) → bytes ≡ front ++ rest → IsHeader floats table types front → header_at floats bytes ≡ Some ((table, types), rest)
again floats bytes table types front rest e header = ap (header_at floats) e ∙ (header_exact floats).again (table, types) front rest header

-- what is read is a front that is a header, and such a front is read
pub header_is_read : (floats : Bool) (table : List Entry) (types : List TyRef) (bytes rest : List ℕ) → (header_at floats bytes ≡ Some ((table, types), rest)) ↔ ((front : List ℕ) × (bytes ≡ front ++ rest) × IsHeader floats table types front)
header_is_read floats table types bytes rest =
    (λ read. let t = taken (SpellsHeader floats) (header_at floats) (header_exact floats) bytes ((table, types), rest) read in (t.front, t.parts, t.spelled), λ h. again floats bytes table types h.0 rest h.1 h.2)

pub header_only : (floats : Bool) (bytes : List ℕ) (x : Found) → header_at floats bytes ≡ Some x → (table : List Entry) (types : List TyRef) (front rest : List ℕ) → bytes ≡ front ++ rest → IsHeader floats table types front
    → (x.0.0 ≡ table) × (x.0.1 ≡ types) × (length bytes - length x.1 ≡ length front)
header_only floats bytes x read table types front rest e header =
    let same = some_is {A = Found} x ((table, types), rest) (sym read ∙ again floats bytes table types front rest e header) in
    let rests : length x.1 ≡ length rest = ap (λ (y : Found). length y.1) same in
    (ap (λ (y : Found). y.0.0) same, ap (λ (y : Found). y.0.1) same, omega (arith, ap length e, length-append front rest))

pub no_header : (floats : Bool) (bytes : List ℕ) → header_at floats bytes ≡ None → (table : List Entry) (types : List TyRef) (front rest : List ℕ) → bytes ≡ front ++ rest → IsHeader floats table types front → ⊥
no_header floats bytes none table types front rest e header = not_none {A = Found} (header_at floats bytes) ((table, types), rest) none (again floats bytes table types front rest e header)

pub float_found : (bytes : List ℕ) (fault : HeaderFault) → fault ≡ faults.Float → IsFault fault (header_at true bytes) → BeginsWithHeader true bytes
float_found bytes fault is found =
    let f = subst (λ g. IsFault g (header_at true bytes)) is found in
    let t = taken (SpellsHeader true) (header_at true) (header_exact true) bytes f.0 f.1 in
    (f.0.0.0, f.0.0.1, t.front, f.0.1, t.parts, t.spelled)

pub none_found : (bytes : List ℕ) (fault : HeaderFault) → fault ≡ faults.NotHeader → IsFault fault (header_at true bytes) → BeginsWithHeader true bytes → ⊥
none_found bytes fault is found b =
    no_header true bytes (subst (λ g. IsFault g (header_at true bytes)) is found) b.0 b.1 b.2 b.3 b.4 b.5

-- no spelling of a header begins another
pub one_header : (floats : Bool) (table other : List Entry) (types others : List TyRef) (front rest front' rest' : List ℕ) → IsHeader floats table types front → IsHeader floats other others front' → front ++ rest ≡ front' ++ rest'
    → (table ≡ other) × (types ≡ others) × (front ≡ front')
one_header floats table other types others front rest front' rest' p q e =
    let same = one_spelling (SpellsHeader floats) (header_at floats) (header_exact floats) (table, types) (other, others) front rest front' rest' p q e in
    (ap (λ (x : List Entry × List TyRef). x.0) same.0, ap (λ (x : List Entry × List TyRef). x.1) same.0, same.1)
