-- Values without parts are read exactly.
use Rattle.std.proofs.Common.{◌≡◌, ℕ, zero, suc, ◌≤◌, Bool, true, false, List, [], ◌∷◌, ◌++◌, length, Some, refl, sym, ap, subst, ◌∙◌, append_assoc}
use Rattle.std.specs.Int.{w8, w16, w32, w64}
use Rattle.std.specs.Str.{is_utf8}
use Rattle.std.proofs.lemmas.Bool.{leb-true, le-leb}
use Rattle.ic_base.specs.Reader.{Reader, empty_at, byte_at, bytes_at, both_at, map_at, filter_map_at, filter_at}
use Rattle.ic_base.specs.Spelling.{Spelling, SpellsBoth}
use Rattle.ic_base.specs.Exact.{Exact}
use Rattle.ic_base.proofs.Steps.{bind_some, some_is}
use Rattle.ic_base.proofs.Exact.{Takes, exact_of, taken, reworded, byte_exact, bytes_exact, both_exact, filter_map_exact, filter_exact}
use Rattle.ic_leb.specs.declared.width.Width.TheVariants.{Candid}
use Rattle.ic_leb.specs.Spells.{SpellsUnsigned, SpellsSigned}
use Rattle.ic_leb.specs.Reading.{unsigned_reader, signed_reader}
use Rattle.ic_leb.proofs.Readers.{unsigned_exact, signed_exact}
use Rattle.cd_types.specs.declared.primitive.Primitive.{Primitive}
use Rattle.cd_types.specs.declared.primitive.Primitive.TheVariants as primitives
use Rattle.cd_types.specs.declared.entry.Entry.{Entry}
use Rattle.cd_types.specs.Shape.{primitive, compound}
use Rattle.cd_codec.specs.Content.{Plain, null, bool, nat, int, nat8, nat16, nat32, nat64, int8, int16, int32, int64, text, reserved, func, service, principal}
use Rattle.cd_codec.specs.Basic.{SpellsNatural, SpellsInteger, SpellsCounted, SpellsText, SpellsTagged, SpellsPrincipal, SpellsFunc}
use Rattle.cd_codec.specs.Plain.{HasShape, bool_byte, SpellsPlain}
use Rattle.cd_codec.specs.ReadPlain.{counted_at, text_at, tagged_at, is_short, principal_at, func_at, bool_of, natural_at, integer_at, primitive_at}
use Rattle.cd_codec.proofs.Fixed.{fixed8, fixed16, fixed32, fixed64, natural_exact, integer_exact}

pub counted_exact : Exact SpellsCounted counted_at
unfolding counted_at
counted_exact = exact_of SpellsCounted counted_at
    (λ s front rest p. rw (p.whole, append_assoc p.count s rest, (unsigned_exact Candid).again (length s) p.count (s ++ rest) p.counted) ((bytes_exact (length s)).again s s rest (refl, refl)))
    (λ bytes z e.
    let a = bind_some (unsigned_reader Candid bytes) (λ n. bytes_at n.0 n.1) z e in
    let s = taken (SpellsUnsigned Candid) (unsigned_reader Candid) (unsigned_exact Candid) bytes a.0 a.1 in
    let t = taken (λ xs bs. (length xs ≡ a.0.0) × (bs ≡ xs)) (bytes_at a.0.0) (bytes_exact a.0.0) a.0.1 z a.2 in
    record {
      front = s.front ++ z.0;
      parts = s.parts ∙ ap (λ (r : List ℕ). s.front ++ r) (t.parts ∙ ap (λ (r : List ℕ). r ++ z.1) t.spelled.1) ∙ sym (append_assoc s.front z.0 z.1);
      spelled = record { count = s.front; whole = refl; counted = subst (λ (k : ℕ). SpellsUnsigned Candid k s.front) (sym t.spelled.0) s.spelled };
    })

pub text_exact : Exact SpellsText text_at
unfolding text_at
text_exact = filter_exact SpellsCounted counted_at is_utf8 counted_exact

tagged_takes : {A : Type 0} (P : Spelling A) (read : Reader A) → Exact P read → (bytes : List ℕ) (z : A × List ℕ) → tagged_at read bytes ≡ Some z → Takes (SpellsTagged P) bytes z
tagged_takes P read exact [] z e = absurd cc
tagged_takes P read exact (zero ∷ rest) z e = absurd cc
tagged_takes P read exact (suc zero ∷ rest) z e =
    let t = taken P read exact rest z e in
    record { front = 1 ∷ t.front; parts = ap (λ (r : List ℕ). 1 ∷ r) t.parts; spelled = (t.front, refl, t.spelled) }
tagged_takes P read exact (suc (suc b) ∷ rest) z e = absurd cc

pub tagged_exact : {A : Type 0} (P : Spelling A) (read : Reader A) → Exact P read → Exact (SpellsTagged P) (tagged_at read)
tagged_exact P read exact = exact_of (SpellsTagged P) (tagged_at read) (λ x front rest p. rw p.1 (exact.again x p.0 rest p.2)) (tagged_takes P read exact)

short_exact : Exact (λ p bytes. (length p ≤ 29) × SpellsCounted p bytes) (filter_at is_short counted_at)
short_exact =
    reworded (λ p bytes. (is_short p ≡ true) × SpellsCounted p bytes) (λ p bytes. (length p ≤ 29) × SpellsCounted p bytes) (filter_at is_short counted_at)
    (λ p bytes q. (le-leb (length p) 29 q.0, q.1))
    (λ p bytes q. (leb-true (length p) 29 q.0, q.1))
    (filter_exact SpellsCounted counted_at is_short counted_exact)

pub principal_exact : Exact SpellsPrincipal principal_at
unfolding principal_at
principal_exact = tagged_exact (λ p bytes. (length p ≤ 29) × SpellsCounted p bytes) (filter_at is_short counted_at) short_exact

pub func_exact : Exact SpellsFunc func_at
unfolding func_at
func_exact =
    tagged_exact (λ f bytes. (front rest : List ℕ) × (bytes ≡ front ++ rest) × SpellsPrincipal f.0 front × SpellsText f.1 rest) (both_at principal_at (λ _. text_at))
    (reworded (SpellsBoth SpellsPrincipal (λ _. SpellsText)) (λ f bytes. (front rest : List ℕ) × (bytes ≡ front ++ rest) × SpellsPrincipal f.0 front × SpellsText f.1 rest) (both_at principal_at (λ _. text_at))
    (λ f bytes q. record { front = q.0; rest = q.1; whole = q.2; first = q.3; second = q.4 })
    (λ f bytes p. (p.front, p.rest, p.whole, p.first, p.second))
    (both_exact SpellsPrincipal (λ _. SpellsText) principal_at (λ _. text_at) principal_exact (λ _. text_exact)))

bool_byte_is : (n : ℕ) (b : Bool) → bool_of n ≡ Some b → n ≡ bool_byte b
bool_byte_is zero b e = rw (← some_is false b e) refl
bool_byte_is (suc zero) b e = rw (← some_is true b e) refl
bool_byte_is (suc (suc n)) b e = absurd cc

bool_of_byte : (b : Bool) → bool_of (bool_byte b) ≡ Some b
bool_of_byte false = refl
bool_of_byte true = refl

bool_exact : Exact (λ b bytes. bytes ≡ bool_byte b ∷ []) (filter_map_at bool_of byte_at)
bool_exact =
    reworded (λ b bytes. (n : ℕ) × (bool_of n ≡ Some b) × (bytes ≡ n ∷ [])) (λ b bytes. bytes ≡ bool_byte b ∷ []) (filter_map_at bool_of byte_at)
    (λ b bytes q. (bool_byte b, bool_of_byte b, q))
    (λ b bytes p. p.2 ∙ ap (λ (n : ℕ). n ∷ []) (bool_byte_is p.0 b p.1))
    (filter_map_exact (λ n bytes. bytes ≡ n ∷ []) byte_at bool_of byte_exact)

-- a value of a primitive type
abbrev pub SpellsAt : Primitive → Plain → List ℕ → Type 0
SpellsAt p v bytes = HasShape v (primitive p) × SpellsPlain v bytes

-- what f makes of what an exact reader takes, where it spells so
made : {A : Type 0} (p : Primitive) (f : A → Plain) (P : Spelling A) (read : Reader A) → Exact P read → ((x : A) (bytes : List ℕ) → P x bytes → SpellsAt p (f x) bytes)
    → (bytes : List ℕ) (z : Plain × List ℕ) → map_at f read bytes ≡ Some z → Takes (SpellsAt p) bytes z
made {A} p f P read exact spells bytes z e =
    let a = bind_some (read bytes) (λ x. Some (f x.0, x.1)) z e in
    let t = taken P read exact bytes a.0 a.1 in
    subst (Takes (SpellsAt p) bytes) (some_is {A = Plain × List ℕ} (f a.0.0, a.0.1) z a.2) (record { front = t.front; parts = t.parts; spelled = spells a.0.0 t.front t.spelled })

-- a value that takes no byte
made_empty : (p : Primitive) (v : Plain) → SpellsAt p v [] → (bytes : List ℕ) (z : Plain × List ℕ) → empty_at v bytes ≡ Some z → Takes (SpellsAt p) bytes z
made_empty p v spells bytes z e = subst (Takes (SpellsAt p) bytes) (some_is {A = Plain × List ℕ} (v, bytes) z e) (record { front = []; parts = refl; spelled = spells })

-- what is read at a primitive type is a value of it
primitive_takes : (p : Primitive) (bytes : List ℕ) (z : Plain × List ℕ) → primitive_at p bytes ≡ Some z → Takes (SpellsAt p) bytes z
unfolding primitive_at
primitive_takes primitives.Null bytes z e = made_empty primitives.Null null (refl, refl) bytes z e
primitive_takes primitives.Bool bytes z e = made primitives.Bool bool (λ b bs. bs ≡ bool_byte b ∷ []) (filter_map_at bool_of byte_at) bool_exact (λ b bs h. (refl, h)) bytes z e
primitive_takes primitives.Nat bytes z e = made primitives.Nat nat (SpellsUnsigned Candid) (unsigned_reader Candid) (unsigned_exact Candid) (λ n bs h. (refl, h)) bytes z e
primitive_takes primitives.Int bytes z e = made primitives.Int int (SpellsSigned Candid) (signed_reader Candid) (signed_exact Candid) (λ n bs h. (refl, h)) bytes z e
primitive_takes primitives.Nat8 bytes z e = made primitives.Nat8 nat8 (SpellsNatural w8) (natural_at w8) (natural_exact w8 fixed8) (λ n bs h. (refl, h)) bytes z e
primitive_takes primitives.Nat16 bytes z e = made primitives.Nat16 nat16 (SpellsNatural w16) (natural_at w16) (natural_exact w16 fixed16) (λ n bs h. (refl, h)) bytes z e
primitive_takes primitives.Nat32 bytes z e = made primitives.Nat32 nat32 (SpellsNatural w32) (natural_at w32) (natural_exact w32 fixed32) (λ n bs h. (refl, h)) bytes z e
primitive_takes primitives.Nat64 bytes z e = made primitives.Nat64 nat64 (SpellsNatural w64) (natural_at w64) (natural_exact w64 fixed64) (λ n bs h. (refl, h)) bytes z e
primitive_takes primitives.Int8 bytes z e = made primitives.Int8 int8 (SpellsInteger w8) (integer_at w8) (integer_exact w8 fixed8) (λ n bs h. (refl, h)) bytes z e
primitive_takes primitives.Int16 bytes z e = made primitives.Int16 int16 (SpellsInteger w16) (integer_at w16) (integer_exact w16 fixed16) (λ n bs h. (refl, h)) bytes z e
primitive_takes primitives.Int32 bytes z e = made primitives.Int32 int32 (SpellsInteger w32) (integer_at w32) (integer_exact w32 fixed32) (λ n bs h. (refl, h)) bytes z e
primitive_takes primitives.Int64 bytes z e = made primitives.Int64 int64 (SpellsInteger w64) (integer_at w64) (integer_exact w64 fixed64) (λ n bs h. (refl, h)) bytes z e
primitive_takes primitives.Text bytes z e = made primitives.Text text SpellsText text_at text_exact (λ n bs h. (refl, h)) bytes z e
primitive_takes primitives.Reserved bytes z e = made_empty primitives.Reserved reserved (refl, refl) bytes z e
primitive_takes primitives.Empty bytes z e = absurd cc
primitive_takes primitives.Principal bytes z e = made primitives.Principal principal SpellsPrincipal principal_at principal_exact (λ n bs h. (refl, h)) bytes z e

-- a value made by f is read again
again_made : {A : Type 0} (f : A → Plain) (P : Spelling A) (read : Reader A) → Exact P read → (x : A) (front rest : List ℕ) → P x front → map_at f read (front ++ rest) ≡ Some (f x, rest)
again_made f P read exact x front rest p = rw (exact.again x front rest p) refl

not_compound : (p : Primitive) (e : Entry) → primitive p ≡ compound e → ⊥
not_compound p e h = cc

-- two primitive types of one shape
same_primitive : (p q : Primitive) → primitive p ≡ primitive q → p ≡ q
same_primitive p q e = cc

primitive_again : (v : Plain) (p : Primitive) (front rest : List ℕ) → HasShape v (primitive p) → SpellsPlain v front → primitive_at p (front ++ rest) ≡ Some (v, rest)
unfolding primitive_at
primitive_again null p front rest h s = rw (same_primitive p primitives.Null h, s) refl
primitive_again (bool b) p front rest h s = rw (same_primitive p primitives.Bool h) (again_made bool (λ b bs. bs ≡ bool_byte b ∷ []) (filter_map_at bool_of byte_at) bool_exact b front rest s)
primitive_again (nat n) p front rest h s = rw (same_primitive p primitives.Nat h) (again_made nat (SpellsUnsigned Candid) (unsigned_reader Candid) (unsigned_exact Candid) n front rest s)
primitive_again (int n) p front rest h s = rw (same_primitive p primitives.Int h) (again_made int (SpellsSigned Candid) (signed_reader Candid) (signed_exact Candid) n front rest s)
primitive_again (nat8 n) p front rest h s = rw (same_primitive p primitives.Nat8 h) (again_made nat8 (SpellsNatural w8) (natural_at w8) (natural_exact w8 fixed8) n front rest s)
primitive_again (nat16 n) p front rest h s = rw (same_primitive p primitives.Nat16 h) (again_made nat16 (SpellsNatural w16) (natural_at w16) (natural_exact w16 fixed16) n front rest s)
primitive_again (nat32 n) p front rest h s = rw (same_primitive p primitives.Nat32 h) (again_made nat32 (SpellsNatural w32) (natural_at w32) (natural_exact w32 fixed32) n front rest s)
primitive_again (nat64 n) p front rest h s = rw (same_primitive p primitives.Nat64 h) (again_made nat64 (SpellsNatural w64) (natural_at w64) (natural_exact w64 fixed64) n front rest s)
primitive_again (int8 n) p front rest h s = rw (same_primitive p primitives.Int8 h) (again_made int8 (SpellsInteger w8) (integer_at w8) (integer_exact w8 fixed8) n front rest s)
primitive_again (int16 n) p front rest h s = rw (same_primitive p primitives.Int16 h) (again_made int16 (SpellsInteger w16) (integer_at w16) (integer_exact w16 fixed16) n front rest s)
primitive_again (int32 n) p front rest h s = rw (same_primitive p primitives.Int32 h) (again_made int32 (SpellsInteger w32) (integer_at w32) (integer_exact w32 fixed32) n front rest s)
primitive_again (int64 n) p front rest h s = rw (same_primitive p primitives.Int64 h) (again_made int64 (SpellsInteger w64) (integer_at w64) (integer_exact w64 fixed64) n front rest s)
primitive_again (text n) p front rest h s = rw (same_primitive p primitives.Text h) (again_made text SpellsText text_at text_exact n front rest s)
primitive_again reserved p front rest h s = rw (same_primitive p primitives.Reserved h, s) refl
primitive_again (func a b) p front rest h s = absurd (not_compound p _ h.3)
primitive_again (service n) p front rest h s = absurd (not_compound p _ h.1)
primitive_again (principal n) p front rest h s = rw (same_primitive p primitives.Principal h) (again_made principal SpellsPrincipal principal_at principal_exact n front rest s)

pub primitive_exact : (p : Primitive) → Exact (SpellsAt p) (primitive_at p)
primitive_exact p = exact_of (SpellsAt p) (primitive_at p) (λ v front rest h. primitive_again v p front rest h.0 h.1) (primitive_takes p)
