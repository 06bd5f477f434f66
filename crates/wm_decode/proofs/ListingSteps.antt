-- What a turn of a loop does that skips items, looks for one, or keeps sections.
use Rattle.std.proofs.Common.{◌≡◌, ℕ, suc, ◌+◌, ◌-◌, ◌<◌, ◌≤◌, List, Option, Some, None, refl, sym, ◌∙◌, arith}
use Rattle.std.specs.Option.{option_or}
use Rattle.ic_base.specs.declared.read_error.ReadError.{ReadError}
use Rattle.ic_base.specs.declared.read_error.ReadError.TheVariants.{NoMemory, Refused}
use Rattle.ic_base.specs.Reader.{Reader, ◌>>=◌}
use Rattle.ic_base.specs.Gives.{Fails}
use Rattle.wm_tree.specs.declared.listing.Listing.{Listing}
use Rattle.wm_decode.specs.Mod.{Section}
use Rattle.wm_decode.specs.Readers.{section_at}
use Rattle.wm_decode.specs.Listing.{skipped, first_at, listed, listed_with}

-- where the first step fails, all do
fails_on : {A B : Type 0} (e : ReadError) (read : Option A) (next : A → Option B) (total : Option B) → Fails e read → (read >>= next) ≡ total → Fails e total
fails_on NoMemory read next total none so_far = tt
fails_on Refused None next total none so_far = sym so_far
fails_on Refused (Some x) next total none so_far = absurd cc

left : (count i : ℕ) → i < count → count - i ≡ suc (count - (i + 1))
left count i below = omega arith

-- ---- items that are skipped

opened : {A : Type 0} (read : Reader A) (count i : ℕ) (rest : List ℕ) → i < count → skipped read (count - i) rest ≡ (read rest >>= λ x. skipped read (count - (i + 1)) x.1)
unfolding skipped
opened read count i rest below = rw (left count i below) refl

pub not_skipped : {A : Type 0} (e : ReadError) (read : Reader A) (count i : ℕ) (rest : List ℕ) (total : Option (List ℕ)) → i < count → Fails e (read rest)
    → skipped read (count - i) rest ≡ total → Fails e total
not_skipped e read count i rest total below none so_far =
    fails_on e (read rest) (λ x. skipped read (count - (i + 1)) x.1) total none (sym (opened read count i rest below) ∙ so_far)

pub one_skipped : {A : Type 0} (read : Reader A) (count i : ℕ) (rest after : List ℕ) (x : A) (total : Option (List ℕ)) → i < count → read rest ≡ Some (x, after)
    → skipped read (count - i) rest ≡ total → skipped read (count - (i + 1)) after ≡ total
one_skipped read count i rest after x total below one so_far =
    let step : skipped read (count - i) rest ≡ skipped read (count - (i + 1)) after = rw (opened read count i rest below, one) refl in
    sym step ∙ so_far

pub all_skipped : {A : Type 0} (read : Reader A) (count i : ℕ) (rest : List ℕ) (total : Option (List ℕ)) → count ≤ i → skipped read (count - i) rest ≡ total → total ≡ Some rest
unfolding skipped
all_skipped read count i rest total past so_far =
    let none : count - i ≡ 0 = omega arith in
    let step : skipped read (count - i) rest ≡ Some rest = rw none refl in
    sym so_far ∙ step

-- ---- an item that is looked for

tried : {A B : Type 0} (read : Reader A) (gives : A → Option B) (count i : ℕ) (rest : List ℕ) → i < count
    → first_at read gives (count - i) rest ≡ (read rest >>= λ x. option_or (gives x.0) (first_at read gives (count - (i + 1)) x.1))
unfolding first_at
tried read gives count i rest below = rw (left count i below) refl

pub no_item : {A B : Type 0} (e : ReadError) (read : Reader A) (gives : A → Option B) (count i : ℕ) (rest : List ℕ) (total : Option B) → i < count → Fails e (read rest)
    → first_at read gives (count - i) rest ≡ total → Fails e total
no_item e read gives count i rest total below none so_far =
    fails_on e (read rest) (λ x. option_or (gives x.0) (first_at read gives (count - (i + 1)) x.1)) total none (sym (tried read gives count i rest below) ∙ so_far)

-- what is looked for after an item
after_item : {A B : Type 0} (read : Reader A) (gives : A → Option B) (count i : ℕ) (rest after : List ℕ) (x : A) (given : Option B) (total : Option B) → i < count
    → read rest ≡ Some (x, after) → gives x ≡ given → first_at read gives (count - i) rest ≡ total → option_or given (first_at read gives (count - (i + 1)) after) ≡ total
after_item read gives count i rest after x given total below one is so_far =
    let step : first_at read gives (count - i) rest ≡ option_or given (first_at read gives (count - (i + 1)) after) = rw (tried read gives count i rest below, one, is) refl in
    sym step ∙ so_far

pub item_found : {A B : Type 0} (read : Reader A) (gives : A → Option B) (count i : ℕ) (rest after : List ℕ) (x : A) (y : B) (total : Option B) → i < count
    → read rest ≡ Some (x, after) → gives x ≡ Some y → first_at read gives (count - i) rest ≡ total → total ≡ Some y
item_found read gives count i rest after x y total below one is so_far = sym (after_item read gives count i rest after x (Some y) total below one is so_far)

pub item_passed : {A B : Type 0} (read : Reader A) (gives : A → Option B) (count i : ℕ) (rest after : List ℕ) (x : A) (total : Option B) → i < count
    → read rest ≡ Some (x, after) → gives x ≡ None → first_at read gives (count - i) rest ≡ total → first_at read gives (count - (i + 1)) after ≡ total
item_passed read gives count i rest after x total below one is so_far = after_item read gives count i rest after x None total below one is so_far

pub none_found : {A B : Type 0} (read : Reader A) (gives : A → Option B) (count i : ℕ) (rest : List ℕ) (total : Option B) → count ≤ i → first_at read gives (count - i) rest ≡ total → total ≡ None
unfolding first_at
none_found read gives count i rest total past so_far =
    let none : count - i ≡ 0 = omega arith in
    let step : first_at read gives (count - i) rest ≡ None = rw none refl in
    sym so_far ∙ step

-- ---- sections that are kept

kept : (count i all : ℕ) (rest : List ℕ) (l : Listing) → i < count → listed (count - i) all rest l ≡ listed_with (listed (count - (i + 1)) all) all (section_at rest) l
unfolding listed
kept count i all rest l below = rw (left count i below) refl

pub no_more_kept : (count i all : ℕ) (rest : List ℕ) (l total : Listing) → i < count → section_at rest ≡ None → listed (count - i) all rest l ≡ total → l ≡ total
no_more_kept count i all rest l total below none so_far =
    let step : listed (count - i) all rest l ≡ l = rw (kept count i all rest l below, none) refl in
    sym step ∙ so_far

pub all_kept : (count i all : ℕ) (rest : List ℕ) (l total : Listing) → count ≤ i → listed (count - i) all rest l ≡ total → l ≡ total
unfolding listed
all_kept count i all rest l total past so_far =
    let none : count - i ≡ 0 = omega arith in
    let step : listed (count - i) all rest l ≡ l = rw none refl in
    sym step ∙ so_far

pub one_kept : (count i all : ℕ) (rest after : List ℕ) (s : Section) (l total : Listing) → i < count → section_at rest ≡ Some (s, after) → listed (count - i) all rest l ≡ total
    → listed_with (listed (count - (i + 1)) all) all (Some (s, after)) l ≡ total
one_kept count i all rest after s l total below one so_far =
    let step : listed (count - i) all rest l ≡ listed_with (listed (count - (i + 1)) all) all (Some (s, after)) l = rw (kept count i all rest l below, one) refl in
    sym step ∙ so_far
