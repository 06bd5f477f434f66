-- the arguments of a message, one by one
use Rattle.std.proofs.Common.{◌≡◌, ◌⊎◌, inl, inr, ◌↔◌, ℕ, zero, suc, ◌+◌, ◌<◌, Bool, true, false, List, [], ◌∷◌, length, Option, Some, None, refl, sym, ap, ◌∙◌, subst, arith, slice_get, IsTrue, if◌then◌else◌}
use Rattle.ic_base.specs.Reader.{◌>>=◌}
use Rattle.ic_base.proofs.Steps.{bind_some, some_is}
use Rattle.cd_types.specs.declared.entry.TyRef.{TyRef}
use Rattle.cd_types.specs.declared.entry.Entry.{Entry}
use Rattle.cd_types.specs.declared.primitive.Primitive.TheVariants.{Null, Reserved}
use Rattle.cd_types.specs.declared.entry.Entry.TheVariants.{Opt}
use Rattle.cd_types.specs.Shape.{Shape, primitive, compound, shape}
use Rattle.cd_sub.specs.Below.{below}
use Rattle.cd_sub.specs.MayMiss.{may_miss}
use Rattle.cd_sub.specs.Sub.{Sub}
use Rattle.cd_codec.specs.Content.{Content}
use Rattle.cd_coerce.specs.Missing.{missing}
use Rattle.cd_coerce.specs.Coerce.{IsReadAs}
use Rattle.cd_coerce.specs.Read.{Setting, coerced}
use Rattle.cd_coerce.specs.Step.{setting}
use Rattle.cd_coerce.specs.Decodes.{Fits, IsArgument}
use Rattle.cd_coerce.specs.Decoded.{fits, unfit_from, argument_at, arguments_from}

-- ---- one argument

-- the test of subtyping decides it
abbrev pub Decided : List Entry → List Entry → Type 0
Decided lower upper = (a b : TyRef) → IsTrue (below lower a upper b) ↔ Sub lower a upper b

-- what is read is what the relation says
abbrev pub Reads : List Entry → List Entry → Type 0
Reads lower upper = (t u : TyRef) (v r : Content) → (coerced (setting lower upper) v t u ≡ Some r) ↔ IsReadAs lower upper t v u r

pub fits_found : (lower upper : List Entry) → Decided lower upper → (o : Option TyRef) (u : TyRef) → fits (setting lower upper) o u ≡ true → Fits lower upper o u
fits_found lower upper decided None u e = e
fits_found lower upper decided (Some t) u e = (decided t u).0 e

pub fits_only : (lower upper : List Entry) → Decided lower upper → (o : Option TyRef) (u : TyRef) → Fits lower upper o u → fits (setting lower upper) o u ≡ true
fits_only lower upper decided None u h = h
fits_only lower upper decided (Some t) u h = (decided t u).1 h

is_false : (b : Bool) → (b ≡ true → ⊥) → b ≡ false
is_false false fails = refl
is_false true fails = absurd (fails refl)

pub unfit_only : (lower upper : List Entry) → Decided lower upper → (o : Option TyRef) (u : TyRef) → (Fits lower upper o u → ⊥) → fits (setting lower upper) o u ≡ false
unfit_only lower upper decided o u unfit = is_false (fits (setting lower upper) o u) (λ e. unfit (fits_found lower upper decided o u e))

pub unfit_found : (lower upper : List Entry) → Decided lower upper → (o : Option TyRef) (u : TyRef) → fits (setting lower upper) o u ≡ false → Fits lower upper o u → ⊥
unfit_found lower upper decided o u e h = let k : true ≡ false = sym (fits_only lower upper decided o u h) ∙ e in cc

-- what may be missing has what stands for it
missing_fits : (s : Shape) (r : Content) → missing s ≡ Some r → may_miss s ≡ true
missing_fits (primitive Null) r e = refl
missing_fits (primitive Reserved) r e = refl
missing_fits (compound (Opt type)) r e = refl
missing_fits _ r e = absurd cc

pub argument_found : (lower upper : List Entry) → Decided lower upper → Reads lower upper → (o : Option TyRef) (v : Option Content) (u : TyRef) (r : Content)
    → fits (setting lower upper) o u ≡ true → argument_at (setting lower upper) o v u ≡ Some r → IsArgument lower upper o v u r
argument_found lower upper decided reads None v u r fit e = e
argument_found lower upper decided reads (Some t) None u r fit e = absurd cc
argument_found lower upper decided reads (Some t) (Some v) u r fit e = ((decided t u).0 fit, (reads t u v r).0 e)

pub argument_only : (lower upper : List Entry) → Decided lower upper → Reads lower upper → (o : Option TyRef) (v : Option Content) (u : TyRef) (r : Content)
    → IsArgument lower upper o v u r → (fits (setting lower upper) o u ≡ true) × (argument_at (setting lower upper) o v u ≡ Some r)
argument_only lower upper decided reads None v u r h = (missing_fits (shape upper u) r h, h)
argument_only lower upper decided reads (Some t) None u r h = absurd h
argument_only lower upper decided reads (Some t) (Some v) u r h = ((decided t u).1 h.0, (reads t u v r).1 h.1)

-- ---- whether all fit

-- the argument at a place fits
abbrev FitsAt : Setting → List TyRef → ℕ → List TyRef → ℕ → Type 0
FitsAt c types place us i = (u : TyRef) → slice_get us i ≡ Some u → fits c (slice_get types (place + i)) u ≡ true

-- a place, counted from one further
one_on : (place i : ℕ) → place + suc i ≡ suc place + i
one_on place i = omega arith

at_start : (place : ℕ) → place + 0 ≡ place
at_start place = omega arith

goes_on : (b : Bool) (place : ℕ) (rest o : Option ℕ) → (if b then rest else Some place) ≡ o → ((b ≡ true) × (rest ≡ o)) ⊎ ((b ≡ false) × (Some place ≡ o))
goes_on true place rest o e = inl (refl, e)
goes_on false place rest o e = inr (refl, e)

tail_fits : (c : Setting) (types : List TyRef) (place : ℕ) (u : TyRef) (us : List TyRef) (i : ℕ) → FitsAt c types (suc place) us i → FitsAt c types place (u ∷ us) (suc i)
tail_fits c types place u us i h w e = subst (λ (n : ℕ). fits c (slice_get types n) w ≡ true) (sym (one_on place i)) (h w e)

fits_tail : (c : Setting) (types : List TyRef) (place : ℕ) (u : TyRef) (us : List TyRef) (i : ℕ) → FitsAt c types place (u ∷ us) (suc i) → FitsAt c types (suc place) us i
fits_tail c types place u us i h w e = subst (λ (n : ℕ). fits c (slice_get types n) w ≡ true) (one_on place i) (h w e)

head_fits : (c : Setting) (types : List TyRef) (place : ℕ) (u : TyRef) (us : List TyRef) → fits c (slice_get types place) u ≡ true → FitsAt c types place (u ∷ us) 0
head_fits c types place u us fit w e =
    subst (λ (x : TyRef). fits c (slice_get types (place + 0)) x ≡ true) (some_is u w e) (subst (λ (n : ℕ). fits c (slice_get types n) u ≡ true) (sym (at_start place)) fit)

fits_head : (c : Setting) (types : List TyRef) (place : ℕ) (u : TyRef) (us : List TyRef) → FitsAt c types place (u ∷ us) 0 → fits c (slice_get types place) u ≡ true
fits_head c types place u us h = subst (λ (n : ℕ). fits c (slice_get types n) u ≡ true) (at_start place) (h u refl)

pub all_found : (c : Setting) (types : List TyRef) (place : ℕ) (us : List TyRef) → unfit_from c place types us ≡ None → (i : ℕ) → FitsAt c types place us i
all_found c types place [] e i = λ w at. absurd cc
all_found c types place (u ∷ us) e i =
    elim (goes_on (fits c (slice_get types place) u) place (unfit_from c (suc place) types us) None e) [
      | inl p ↦ at_each i p.0 (all_found c types (suc place) us p.1)
      | inr p ↦ absurd (let k : Some place ≡ None = p.1 in cc)
    ]
  where
    at_each : (i : ℕ) → fits c (slice_get types place) u ≡ true → ((i : ℕ) → FitsAt c types (suc place) us i) → FitsAt c types place (u ∷ us) i
    at_each zero fit rest = head_fits c types place u us fit
    at_each (suc i) fit rest = tail_fits c types place u us i (rest i)

pub all_only : (c : Setting) (types : List TyRef) (place : ℕ) (us : List TyRef) → ((i : ℕ) → FitsAt c types place us i) → unfit_from c place types us ≡ None
all_only c types place [] all = refl
all_only c types place (u ∷ us) all =
    rw (fits_head c types place u us (all 0)) (all_only c types (suc place) us (λ i. fits_tail c types place u us i (all (suc i))))

-- the first that does not fit, that many places on
pub record FirstUnfit (c : Setting) (types : List TyRef) (place : ℕ) (us : List TyRef) (on : ℕ) : Type 0 where
  pub before : (i : ℕ) → i < on → FitsAt c types place us i
  pub type : TyRef
  pub there : slice_get us on ≡ Some type
  pub unfit : fits c (slice_get types (place + on)) type ≡ false

pub first_found : (c : Setting) (types : List TyRef) (place : ℕ) (us : List TyRef) (p : ℕ) → unfit_from c place types us ≡ Some p → (on : ℕ) × (p ≡ place + on) × FirstUnfit c types place us on
first_found c types place [] p e = absurd cc
first_found c types place (u ∷ us) p e =
    elim (goes_on (fits c (slice_get types place) u) place (unfit_from c (suc place) types us) (Some p) e) [
      | inl q ↦ later q.0 (first_found c types (suc place) us p q.1)
      | inr q ↦ (
        0,
        sym (some_is {A = ℕ} place p q.1) ∙ sym (at_start place),
        record {
          before = λ i below. absurd (omega arith);
          type = u;
          there = refl;
          unfit = subst (λ (n : ℕ). fits c (slice_get types n) u ≡ false) (sym (at_start place)) q.0;
        },
      )
    ]
  where
    at_each : (i on : ℕ) → fits c (slice_get types place) u ≡ true → ((i : ℕ) → i < on → FitsAt c types (suc place) us i) → i < suc on → FitsAt c types place (u ∷ us) i
    at_each zero on fit before below = head_fits c types place u us fit
    at_each (suc i) on fit before below = tail_fits c types place u us i (before i (omega arith))

    later : fits c (slice_get types place) u ≡ true → (on : ℕ) × (p ≡ suc place + on) × FirstUnfit c types (suc place) us on
        → (on : ℕ) × (p ≡ place + on) × FirstUnfit c types place (u ∷ us) on
    later fit f = (
      suc f.0,
      f.1 ∙ sym (one_on place f.0),
      record {
        before = λ i below. at_each i f.0 fit f.2.before below;
        type = f.2.type;
        there = f.2.there;
        unfit = subst (λ (n : ℕ). fits c (slice_get types n) f.2.type ≡ false) (sym (one_on place f.0)) f.2.unfit;
      },
    )

pub first_only : (c : Setting) (types : List TyRef) (place : ℕ) (us : List TyRef) (on : ℕ) → FirstUnfit c types place us on → unfit_from c place types us ≡ Some (place + on)
first_only c types place [] on f = absurd (let k : None ≡ Some f.type = f.there in cc)
first_only c types place (u ∷ us) zero f =
    let same : u ≡ f.type = some_is u f.type f.there in
    let unfit : fits c (slice_get types place) u ≡ false = subst (λ (x : TyRef). fits c (slice_get types place) x ≡ false) (sym same) (subst (λ (n : ℕ). fits c (slice_get types n) f.type ≡ false) (at_start place) f.unfit) in
    rw unfit (ap (λ (n : ℕ). Some n) (sym (at_start place)))
first_only c types place (u ∷ us) (suc on) f =
    rw (fits_head c types place u us (f.before 0 (omega arith)))
    (first_only c types (suc place) us on record {
      before = λ i below. fits_tail c types place u us i (f.before (suc i) (omega arith));
      type = f.type;
      there = f.there;
      unfit = subst (λ (n : ℕ). fits c (slice_get types n) f.type ≡ false) (one_on place on) f.unfit;
    } ∙ ap (λ (n : ℕ). Some n) (sym (one_on place on)))

-- ---- all arguments

-- the result at a place is read from the value at the place
abbrev ReadAt : Setting → List TyRef → List Content → ℕ → List TyRef → List Content → ℕ → Type 0
ReadAt c types values place us rs i = (u : TyRef) (r : Content) → slice_get us i ≡ Some u → slice_get rs i ≡ Some r
    → argument_at c (slice_get types (place + i)) (slice_get values (place + i)) u ≡ Some r

-- the result at each place is read, and there are as many as are expected
abbrev pub AllRead : Setting → List TyRef → List Content → ℕ → List TyRef → List Content → Type 0
AllRead c types values place us rs = (length rs ≡ length us) × ((i : ℕ) → ReadAt c types values place us rs i)

argument_moved : (c : Setting) (types : List TyRef) (values : List Content) (u : TyRef) (r : Content) (m n : ℕ) → m ≡ n
    → argument_at c (slice_get types m) (slice_get values m) u ≡ Some r → argument_at c (slice_get types n) (slice_get values n) u ≡ Some r
argument_moved c types values u r m n e h = subst (λ (k : ℕ). argument_at c (slice_get types k) (slice_get values k) u ≡ Some r) e h

pub arguments_found : (c : Setting) (types : List TyRef) (values : List Content) (place : ℕ) (us : List TyRef) (rs : List Content)
    → arguments_from c place types values us ≡ Some rs → AllRead c types values place us rs
arguments_found c types values place [] rs e = subst (AllRead c types values place []) (some_is {A = List Content} [] rs e) (refl, λ i u r at there. absurd cc)
arguments_found c types values place (u ∷ us) rs e =
    let a = bind_some (argument_at c (slice_get types place) (slice_get values place) u) (λ r. arguments_from c (suc place) types values us >>= λ more. Some (r ∷ more)) rs e in
    let b = bind_some (arguments_from c (suc place) types values us) (λ more. Some (a.0 ∷ more)) rs a.2 in
    subst (AllRead c types values place (u ∷ us)) (some_is {A = List Content} (a.0 ∷ b.0) rs b.2)
    (joined a.0 b.0 a.1 (arguments_found c types values (suc place) us b.0 b.1))
  where
    at_each : (r : Content) (more : List Content) (i : ℕ) → argument_at c (slice_get types place) (slice_get values place) u ≡ Some r
        → ((i : ℕ) → ReadAt c types values (suc place) us more i) → ReadAt c types values place (u ∷ us) (r ∷ more) i
    at_each r more zero one all w s at there =
        subst (λ (x : Content). argument_at c (slice_get types (place + 0)) (slice_get values (place + 0)) w ≡ Some x) (some_is r s there)
        (subst (λ (x : TyRef). argument_at c (slice_get types (place + 0)) (slice_get values (place + 0)) x ≡ Some r) (some_is u w at)
        (argument_moved c types values u r place (place + 0) (sym (at_start place)) one))
    at_each r more (suc i) one all w s at there = argument_moved c types values w s (suc place + i) (place + suc i) (sym (one_on place i)) (all i w s at there)

    joined : (r : Content) (more : List Content) → argument_at c (slice_get types place) (slice_get values place) u ≡ Some r
        → AllRead c types values (suc place) us more → AllRead c types values place (u ∷ us) (r ∷ more)
    joined r more one all = (ap suc all.0, λ i. at_each r more i one all.1)

pub arguments_only : (c : Setting) (types : List TyRef) (values : List Content) (place : ℕ) (us : List TyRef) (rs : List Content)
    → AllRead c types values place us rs → arguments_from c place types values us ≡ Some rs
arguments_only c types values place [] [] all = refl
arguments_only c types values place [] (r ∷ rs) all = absurd (omega (arith, all.0))
arguments_only c types values place (u ∷ us) [] all = absurd (omega (arith, all.0))
arguments_only c types values place (u ∷ us) (r ∷ rs) all =
    let one : argument_at c (slice_get types place) (slice_get values place) u ≡ Some r = argument_moved c types values u r (place + 0) place (at_start place) (all.1 0 u r refl refl) in
    let rest : arguments_from c (suc place) types values us ≡ Some rs =
    arguments_only c types values (suc place) us rs (omega (arith, all.0), λ i w s at there. argument_moved c types values w s (place + suc i) (suc place + i) (one_on place i) (all.1 (suc i) w s at there)) in
    rw (one, rest) refl
