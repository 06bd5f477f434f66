-- what a message is read as, in the words of the relations
use Rattle.std.proofs.Common.{◌≡◌, ℕ, zero, suc, ◌+◌, ◌<◌, Bool, true, false, List, [], ◌∷◌, length, Option, Some, None, is_some, refl, sym, ap, ◌∙◌, subst, arith, slice_get, if◌then◌else◌}
use Rattle.std.specs.Prelude.{Result, Ok, Err, IfOk, take, drop}
use Rattle.std.proofs.lemmas.List.{take-append-drop}
use Rattle.ic_base.specs.Reader.{◌>>=◌}
use Rattle.ic_base.proofs.Steps.{bind_some}
use Rattle.ic_base.proofs.Exact.{taken}
use Rattle.cd_types.specs.declared.entry.TyRef.{TyRef}
use Rattle.cd_types.specs.declared.entry.Entry.{Entry}
use Rattle.cd_codec.specs.Content.{Content}
use Rattle.cd_codec.specs.IsHeader.{IsHeader}
use Rattle.cd_codec.specs.declared.value.Values.{Values}
use Rattle.cd_codec.specs.AreValues.{AreValues, HasTypes}
use Rattle.cd_codec.specs.Answers.{BeginsWithHeader, contents}
use Rattle.cd_codec.specs.ReadHeader.{header_at}
use Rattle.cd_codec.specs.ReadValue.{values_at}
use Rattle.cd_codec.proofs.HeaderLaws.{SpellsHeader, header_exact}
use Rattle.cd_codec.proofs.HeaderAnswers.{no_header}
use Rattle.cd_codec.proofs.ValueTakes.{values_found}
use Rattle.cd_codec.proofs.ValueAgain.{values_again}
use Rattle.cd_coerce.specs.declared.fault.DidlFault.{DidlFault}
use Rattle.cd_coerce.specs.declared.fault.DidlFault.TheVariants.{NotHeader, Float, NotSubtype, BadValue, NoMemory}
use Rattle.cd_coerce.specs.Read.{Setting}
use Rattle.cd_coerce.specs.Step.{setting}
use Rattle.cd_coerce.specs.Decodes.{Headed, Fits, IsArgument, Decodes, FitBefore, IsLeastUnfit, HasFault}
use Rattle.cd_coerce.specs.Decoded.{fits, unfit_from, argument_at, arguments_from, or_bad, values_read, if_fit, message_read, header_read, decoded, IsAnswer}
use Rattle.cd_coerce.proofs.StepLemmas.{Tables, in_tables}
use Rattle.cd_coerce.proofs.FloatLemmas.{begins_wide}
use Rattle.cd_coerce.proofs.ArgumentLemmas.{Decided, Reads, fits_found, fits_only, unfit_found, unfit_only, argument_found, argument_only, all_found, all_only, first_found, first_only, arguments_found, arguments_only}

abbrev Expected : Type 0
Expected = List Entry × List TyRef

abbrev Header : Type 0
Header = (List Entry × List TyRef) × List ℕ

-- what is read
abbrev Answer : Type 0
Answer = Result (List Content) DidlFault

-- ---- the header

-- the message of a header that is read
abbrev pub message_of : (bytes : List ℕ) (x : Header) → header_at false bytes ≡ Some x → Headed bytes
message_of bytes x e =
    let t = taken (SpellsHeader false) (header_at false) (header_exact false) bytes x e in
    record { table = x.0.0; types = x.0.1; front = t.front; rest = x.1; whole = t.parts; header = t.spelled }

-- what is read of a message
pub header_of : (bytes : List ℕ) (m : Headed bytes) → header_at false bytes ≡ Some ((m.table, m.types), m.rest)
header_of bytes m = ap (header_at false) m.whole ∙ (header_exact false).again (m.table, m.types) m.front m.rest m.header

-- where a header is read, floats admitted, the bytes begin with one
begins_found : (bytes : List ℕ) (floats : Bool) (x : Header) → header_at floats bytes ≡ Some x → BeginsWithHeader floats bytes
begins_found bytes floats x e =
    let t = taken (SpellsHeader floats) (header_at floats) (header_exact floats) bytes x e in
    (x.0.0, x.0.1, t.front, x.1, t.parts, t.spelled)

no_begin : (bytes : List ℕ) (floats : Bool) → header_at floats bytes ≡ None → BeginsWithHeader floats bytes → ⊥
no_begin bytes floats e b = no_header floats bytes e b.0 b.1 b.2 b.3 b.4 b.5

none_of : {A : Type 0} (o : Option A) → ((x : A) → o ≡ Some x → ⊥) → o ≡ None
none_of None fails = refl
none_of (Some x) fails = absurd (fails x refl)

none_begins : (bytes : List ℕ) (floats : Bool) → (BeginsWithHeader floats bytes → ⊥) → header_at floats bytes ≡ None
none_begins bytes floats fails = none_of (header_at floats bytes) (λ x e. fails (begins_found bytes floats x e))

-- ---- what follows the header

abbrev pub ok : List Content → Answer
ok rs = Ok rs

abbrev err : DidlFault → Answer
err fault = Err fault

-- what is read of a message
pub read_of : (expected : Expected) (bytes : List ℕ) (m : Headed bytes) → decoded expected bytes ≡ message_read (setting m.table expected.0) m.types expected.1 m.rest
unfolding decoded
read_of expected bytes m = ap (header_read expected bytes) (header_of bytes m)

fits_from : (expected : Expected) (bytes : List ℕ) (m : Headed bytes) → Decided m.table expected.0 → (i : ℕ) (u : TyRef)
    → fits (setting m.table expected.0) (slice_get m.types (0 + i)) u ≡ true → Fits m.table expected.0 (slice_get m.types i) u
fits_from expected bytes m decided i u e =
    let from : 0 + i ≡ i = omega arith in
    fits_found m.table expected.0 decided (slice_get m.types i) u (subst (λ (n : ℕ). fits (setting m.table expected.0) (slice_get m.types n) u ≡ true) from e)

fits_to : (expected : Expected) (bytes : List ℕ) (m : Headed bytes) → Decided m.table expected.0 → (i : ℕ) (u : TyRef)
    → Fits m.table expected.0 (slice_get m.types i) u → fits (setting m.table expected.0) (slice_get m.types (0 + i)) u ≡ true
fits_to expected bytes m decided i u h =
    let from : i ≡ 0 + i = omega arith in
    subst (λ (n : ℕ). fits (setting m.table expected.0) (slice_get m.types n) u ≡ true) from (fits_only m.table expected.0 decided (slice_get m.types i) u h)

-- an index that has an element is below the length
inside : {A : Type 0} (xs : List A) (i : ℕ) (x : A) → slice_get xs i ≡ Some x → i < length xs
inside [] i x e = absurd cc
inside (y ∷ xs) zero x e = omega arith
inside (y ∷ xs) (suc i) x e = let h = inside xs i x e in omega arith

-- and below the length there is an element
got : {A : Type 0} (xs : List A) (i : ℕ) → i < length xs → (x : A) × (slice_get xs i ≡ Some x)
got [] i below = absurd (omega arith)
got (y ∷ xs) zero below = (y, refl)
got (y ∷ xs) (suc i) below = got xs i (omega arith)

all_fit : (expected : Expected) (bytes : List ℕ) (m : Headed bytes) → Decided m.table expected.0 → unfit_from (setting m.table expected.0) 0 m.types expected.1 ≡ None
    → FitBefore m.table m.types expected (length expected.1)
all_fit expected bytes m decided e i u below at = fits_from expected bytes m decided i u (all_found (setting m.table expected.0) m.types 0 expected.1 e i u at)

none_unfit : (expected : Expected) (bytes : List ℕ) (m : Headed bytes) → Decided m.table expected.0 → FitBefore m.table m.types expected (length expected.1)
    → unfit_from (setting m.table expected.0) 0 m.types expected.1 ≡ None
none_unfit expected bytes m decided fit =
    all_only (setting m.table expected.0) m.types 0 expected.1 (λ i u at. fits_to expected bytes m decided i u (fit i u (inside expected.1 i u at) at))

fit_is : (o : Option ℕ) (read : Answer) (rs : List Content) → if_fit o read ≡ ok rs → (o ≡ None) × (read ≡ ok rs)
fit_is None read rs e = (refl, e)
fit_is (Some place) read rs e = absurd cc

values_is : (o : Option (List Content)) (rs : List Content) → or_bad o ≡ ok rs → o ≡ Some rs
values_is None rs e = absurd cc
values_is (Some vs) rs e = cc

-- ---- values

pub message_found : (expected : Expected) (bytes : List ℕ) (m : Headed bytes) (rs : List Content) → Decided m.table expected.0 → Reads m.table expected.0
    → message_read (setting m.table expected.0) m.types expected.1 m.rest ≡ ok rs → Decodes expected bytes rs
unfolding message_read values_read
message_found expected bytes m rs decided reads e =
    let c : Setting = setting m.table expected.0 in
    let fit = fit_is (unfit_from c 0 m.types expected.1) (values_read c m.types expected.1 m.rest) rs e in
    let vs = bind_some (values_at m.table m.types m.rest) (λ values. arguments_from c 0 m.types values expected.1) rs (values_is _ rs fit.1) in
    let all = arguments_found c m.types vs.0 0 expected.1 rs vs.2 in
    record {
      headed = m;
      values = vs.0;
      spelled = values_found m.table m.types m.rest vs.0 vs.1;
      many = all.0;
      each = λ i u r at there.
          let from : 0 + i ≡ i = omega arith in
          argument_found m.table expected.0 decided reads (slice_get m.types i) (slice_get vs.0 i) u r
          (subst (λ (n : ℕ). fits c (slice_get m.types n) u ≡ true) from (all_found c m.types 0 expected.1 fit.0 i u at))
          (subst (λ (n : ℕ). argument_at c (slice_get m.types n) (slice_get vs.0 n) u ≡ Some r) from (all.1 i u r at there));
    }

pub decoded_found : (expected : Expected) (bytes : List ℕ) (rs : List Content) → ((lower : List Entry) → Decided lower expected.0) → ((lower : List Entry) → Reads lower expected.0)
    → decoded expected bytes ≡ ok rs → Decodes expected bytes rs
unfolding decoded
decoded_found expected bytes rs decided reads e = by_header (header_at false bytes) refl e
  where
    by_header : (o : Option Header) → header_at false bytes ≡ o → header_read expected bytes o ≡ ok rs → Decodes expected bytes rs
    by_header None is read = absurd (let k : err (if is_some (header_at true bytes) then Float else NotHeader) ≡ ok rs = read in cc)
    by_header (Some x) is read = let m = message_of bytes x is in message_found expected bytes m rs (decided x.0.0) (reads x.0.0) read

-- each argument of a message that decodes
argument_of : (expected : Expected) (bytes : List ℕ) (rs : List Content) (d : Decodes expected bytes rs) (i : ℕ) (u : TyRef) → slice_get expected.1 i ≡ Some u
    → (r : Content) × (slice_get rs i ≡ Some r) × IsArgument d.headed.table expected.0 (slice_get d.headed.types i) (slice_get d.values i) u r
argument_of expected bytes rs d i u at =
    let below : i < length rs = omega (arith, inside expected.1 i u at, d.many) in
    let r = got rs i below in
    (r.0, r.1, d.each i u r.0 at r.1)

pub decoded_only : (expected : Expected) (bytes : List ℕ) (rs : List Content) (d : Decodes expected bytes rs) → Decided d.headed.table expected.0 → Reads d.headed.table expected.0 → decoded expected bytes ≡ ok rs
unfolding message_read values_read
decoded_only expected bytes rs d decided reads =
    let m = d.headed in
    let c : Setting = setting m.table expected.0 in
    let to : (i : ℕ) → i ≡ 0 + i = λ i. omega arith in
    let one : (i : ℕ) (u : TyRef) (r : Content) → slice_get expected.1 i ≡ Some u → slice_get rs i ≡ Some r
    → (fits c (slice_get m.types i) u ≡ true) × (argument_at c (slice_get m.types i) (slice_get d.values i) u ≡ Some r) =
    λ i u r at there. argument_only m.table expected.0 decided reads (slice_get m.types i) (slice_get d.values i) u r (d.each i u r at there) in
    let fit : unfit_from c 0 m.types expected.1 ≡ None = all_only c m.types 0 expected.1 (λ i u at.
    let r = argument_of expected bytes rs d i u at in
    subst (λ (n : ℕ). fits c (slice_get m.types n) u ≡ true) (to i) (one i u r.0 at r.1).0) in
    let args : arguments_from c 0 m.types d.values expected.1 ≡ Some rs = arguments_only c m.types d.values 0 expected.1 rs (
      d.many,
      λ i u r at there.
          subst (λ (n : ℕ). argument_at c (slice_get m.types n) (slice_get d.values n) u ≡ Some r) (to i) (one i u r at there).1,
    ) in
    let values : values_at m.table m.types m.rest ≡ Some d.values = values_again m.table m.types d.values m.rest d.spelled in
    read_of expected bytes m ∙ rw (fit, values, args) refl

-- ---- faults

pub decoded_not_header : (expected : Expected) (bytes : List ℕ) → (BeginsWithHeader true bytes → ⊥) → decoded expected bytes ≡ err NotHeader
unfolding decoded
decoded_not_header expected bytes fails =
    let none : header_at false bytes ≡ None = none_begins bytes false (λ b. fails (begins_wide bytes b)) in
    rw (none, none_begins bytes true fails) refl

pub decoded_float : (expected : Expected) (bytes : List ℕ) → BeginsWithHeader true bytes → (BeginsWithHeader false bytes → ⊥) → decoded expected bytes ≡ err Float
unfolding decoded
decoded_float expected bytes b fails =
    let x : header_at true bytes ≡ Some ((b.0, b.1), b.3) = ap (header_at true) b.4 ∙ (header_exact true).again (b.0, b.1) b.2 b.3 b.5 in
    rw (none_begins bytes false fails, x) refl

pub decoded_unfit : (expected : Expected) (bytes : List ℕ) (m : Headed bytes) (place : ℕ) → Decided m.table expected.0 → IsLeastUnfit m.table m.types expected place → decoded expected bytes ≡ err (NotSubtype place)
unfolding message_read
decoded_unfit expected bytes m place decided least =
    let c : Setting = setting m.table expected.0 in
    let on : place ≡ 0 + place = omega arith in
    let first : unfit_from c 0 m.types expected.1 ≡ Some (0 + place) = first_only c m.types 0 expected.1 place record {
      before = λ i below u at. fits_to expected bytes m decided i u (least.before i u below at);
      type = least.type;
      there = least.at_place;
      unfit = subst (λ (n : ℕ). fits c (slice_get m.types n) least.type ≡ false) on (unfit_only m.table expected.0 decided (slice_get m.types place) least.type least.unfit);
    } in
    read_of expected bytes m ∙ rw first (ap (λ (n : ℕ). err (NotSubtype n)) (sym on))

bad_of : (o : Option (List Content)) → ((rs : List Content) → or_bad o ≡ ok rs → ⊥) → or_bad o ≡ err BadValue
bad_of None fails = refl
bad_of (Some rs) fails = absurd (fails rs refl)

pub decoded_bad : (expected : Expected) (bytes : List ℕ) (m : Headed bytes) → Decided m.table expected.0 → Reads m.table expected.0 → FitBefore m.table m.types expected (length expected.1)
    → ((rs : List Content) → Decodes expected bytes rs → ⊥) → decoded expected bytes ≡ err BadValue
unfolding message_read values_read
decoded_bad expected bytes m decided reads fit fails =
    let c : Setting = setting m.table expected.0 in
    let none : unfit_from c 0 m.types expected.1 ≡ None = none_unfit expected bytes m decided fit in
    let read : message_read c m.types expected.1 m.rest ≡ or_bad (values_at m.table m.types m.rest >>= λ values. arguments_from c 0 m.types values expected.1) = rw none refl in
    read_of expected bytes m ∙ read ∙ bad_of _ (λ rs e. fails rs (message_found expected bytes m rs decided reads (read ∙ e)))

-- two faults that are one
same_fault : (f g : DidlFault) → err f ≡ err g → f ≡ g
same_fault f g e = cc

without_header : (expected : Expected) (bytes : List ℕ) (fault : DidlFault) (o : Option Header) → header_at true bytes ≡ o → header_at false bytes ≡ None
    → err (if is_some o then Float else NotHeader) ≡ err fault → HasFault expected bytes fault
without_header expected bytes fault None is none e = subst (HasFault expected bytes) (same_fault NotHeader fault e) (no_begin bytes true is)
without_header expected bytes fault (Some x) is none e = subst (HasFault expected bytes) (same_fault Float fault e) (begins_found bytes true x is, no_begin bytes false none)

unfit_fault : (expected : Expected) (bytes : List ℕ) (m : Headed bytes) (fault : DidlFault) (place : ℕ) → Decided m.table expected.0 → unfit_from (setting m.table expected.0) 0 m.types expected.1 ≡ Some place
    → err (NotSubtype place) ≡ err fault → HasFault expected bytes fault
unfit_fault expected bytes m fault place decided is e =
    let c : Setting = setting m.table expected.0 in
    let f = first_found c m.types 0 expected.1 place is in
    let from : 0 + f.0 ≡ place = sym f.1 in
    let on : f.0 ≡ place = omega (arith, f.1) in
    subst (HasFault expected bytes) (same_fault (NotSubtype place) fault e) (
      m,
      record {
        before = λ i u below at. fits_from expected bytes m decided i u (f.2.before i (omega (arith, on)) u at);
        type = f.2.type;
        at_place = subst (λ (n : ℕ). slice_get expected.1 n ≡ Some f.2.type) on f.2.there;
        unfit = unfit_found m.table expected.0 decided (slice_get m.types place) f.2.type (subst (λ (n : ℕ). fits c (slice_get m.types n) f.2.type ≡ false) from f.2.unfit);
      },
    )

bad_fault : (expected : Expected) (bytes : List ℕ) (m : Headed bytes) (fault : DidlFault) → ((lower : List Entry) → Decided lower expected.0) → ((lower : List Entry) → Reads lower expected.0)
    → unfit_from (setting m.table expected.0) 0 m.types expected.1 ≡ None → decoded expected bytes ≡ err fault → (o : Option (List Content)) → or_bad o ≡ err fault → HasFault expected bytes fault
bad_fault expected bytes m fault decided reads none is (Some rs) e = absurd (let k : ok rs ≡ err fault = e in cc)
bad_fault expected bytes m fault decided reads none is None e =
    subst (HasFault expected bytes) (same_fault BadValue fault e) (
      m,
      all_fit expected bytes m (decided m.table) none,
      λ rs d. let k : ok rs ≡ err fault = sym (decoded_only expected bytes rs d (decided d.headed.table) (reads d.headed.table)) ∙ is in cc,
    )

message_fault : (expected : Expected) (bytes : List ℕ) (m : Headed bytes) (fault : DidlFault) → ((lower : List Entry) → Decided lower expected.0) → ((lower : List Entry) → Reads lower expected.0)
    → decoded expected bytes ≡ err fault → (o : Option ℕ) → unfit_from (setting m.table expected.0) 0 m.types expected.1 ≡ o
    → if_fit o (values_read (setting m.table expected.0) m.types expected.1 m.rest) ≡ err fault → HasFault expected bytes fault
unfolding values_read
message_fault expected bytes m fault decided reads is None none e = bad_fault expected bytes m fault decided reads none is _ e
message_fault expected bytes m fault decided reads is (Some place) some e = unfit_fault expected bytes m fault place (decided m.table) some e

-- the fault of bytes that are not read
pub fault_found : (expected : Expected) (bytes : List ℕ) (fault : DidlFault) → ((lower : List Entry) → Decided lower expected.0) → ((lower : List Entry) → Reads lower expected.0)
    → decoded expected bytes ≡ err fault → HasFault expected bytes fault
unfolding decoded message_read
fault_found expected bytes fault decided reads e = by_header (header_at false bytes) refl e
  where
    by_header : (o : Option Header) → header_at false bytes ≡ o → header_read expected bytes o ≡ err fault → HasFault expected bytes fault
    by_header None is read = without_header expected bytes fault (header_at true bytes) refl is read
    by_header (Some x) is read = let m = message_of bytes x is in message_fault expected bytes m fault decided reads e _ refl read

-- and the other way round
pub fault_only : (expected : Expected) (bytes : List ℕ) (fault : DidlFault) → ((lower : List Entry) → Decided lower expected.0) → ((lower : List Entry) → Reads lower expected.0)
    → HasFault expected bytes fault → decoded expected bytes ≡ err fault
fault_only expected bytes NotHeader decided reads h = decoded_not_header expected bytes h
fault_only expected bytes Float decided reads h = decoded_float expected bytes h.0 h.1
fault_only expected bytes (NotSubtype place) decided reads h = decoded_unfit expected bytes h.0 place (decided h.0.table) h.1
fault_only expected bytes BadValue decided reads h = decoded_bad expected bytes h.0 (decided h.0.table) (reads h.0.table) h.1 h.2
fault_only expected bytes NoMemory decided reads h = absurd h

-- ---- what the steps of reading a message answer

-- what the header is read as
pub header_answers : (bytes : List ℕ) (table : List Entry) (types : List TyRef) (size : ℕ) → IsHeader false table types (take size bytes) → header_at false bytes ≡ Some ((table, types), drop size bytes)
header_answers bytes table types size header =
    ap (header_at false) (sym (take-append-drop size bytes)) ∙ (header_exact false).again (table, types) (take size bytes) (drop size bytes) header

-- no values are read
pub bad_values : (c : Setting) (types expected : List TyRef) (bytes : List ℕ) → ((values : List Content) → AreValues c.wire types values bytes → ⊥) → values_read c types expected bytes ≡ err BadValue
unfolding values_read
bad_values c types expected bytes fails =
    let none : values_at c.wire types bytes ≡ None = none_of (values_at c.wire types bytes) (λ vs e. fails vs (values_found c.wire types bytes vs e)) in
    rw none refl

-- the arguments that are read of the values, where the code has the types and values as ts and vs
pub some_values : (c : Setting) (types ts expected : List TyRef) (bytes : List ℕ) (values vs : List Content) (o : Option (List Content)) → AreValues c.wire types values bytes → ts ≡ types → vs ≡ values
    → arguments_from c 0 ts vs expected ≡ o → values_read c types expected bytes ≡ or_bad o
unfolding values_read
some_values c types ts expected bytes values vs o are same_types same_values read =
    let args : arguments_from c 0 types values expected ≡ o =
    ap (λ (ts : List TyRef). arguments_from c 0 ts values expected) (sym same_types) ∙ ap (λ (vs : List Content). arguments_from c 0 ts vs expected) (sym same_values) ∙ read in
    rw (values_again c.wire types values bytes are, args) refl

-- whether the arguments fit
pub fit_answers : (c : Setting) (types ts expected us : List TyRef) (bytes : List ℕ) (o : Option ℕ) → ts ≡ types → us ≡ expected → o ≡ unfit_from c 0 ts us
    → message_read c types expected bytes ≡ if_fit o (values_read c types expected bytes)
unfolding message_read
fit_answers c types ts expected us bytes o same_types same_expected is =
    let fit : o ≡ unfit_from c 0 types expected =
    is ∙ ap (λ (ts : List TyRef). unfit_from c 0 ts us) same_types ∙ ap (λ (us : List TyRef). unfit_from c 0 types us) same_expected in
    ap (λ (o : Option ℕ). if_fit o (values_read c types expected bytes)) (sym fit)

-- a message whose arguments fit, where the code has the tables and the expected types as now and us
pub fit_then : (result : Result Values DidlFault) (before now : Tables) (types ts expected us : List TyRef) (bytes : List ℕ) → now ≡ before → ts ≡ types → us ≡ expected → None ≡ unfit_from (in_tables before) 0 ts us
    → IsAnswer result (values_read (in_tables now) types us bytes) → IsAnswer result (message_read (in_tables before) types expected bytes)
fit_then result before now types ts expected us bytes same same_types same_expected fit answer =
    let read : message_read (in_tables before) types expected bytes ≡ values_read (in_tables now) types us bytes =
    fit_answers (in_tables before) types ts expected us bytes None same_types same_expected fit
    ∙ ap (λ (tables : Tables). values_read (in_tables tables) types expected bytes) (sym same) ∙ ap (λ (us : List TyRef). values_read (in_tables now) types us bytes) (sym same_expected) in
    subst (IsAnswer result) (sym read) answer

-- a message with a header
pub header_then : (expected : Expected) (bytes : List ℕ) (table : List Entry) (types : List TyRef) (rest : List ℕ) → header_at false bytes ≡ Some ((table, types), rest)
    → decoded expected bytes ≡ message_read (setting table expected.0) types expected.1 rest
unfolding decoded
header_then expected bytes table types rest is = ap (header_read expected bytes) is

-- the values of an answer have the expected types
pub typed_answer : (result : Result Values DidlFault) (expected : Expected) (bytes : List ℕ) → ((rs : List Content) → decoded expected bytes ≡ ok rs → HasTypes expected.0 expected.1 rs)
    → IsAnswer result (decoded expected bytes) → IfOk result (λ values. HasTypes expected.0 expected.1 (contents values))
typed_answer (Ok values) expected bytes typed answer = typed (contents values) answer
typed_answer (Err fault) expected bytes typed answer = tt
