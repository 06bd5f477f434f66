-- Methods that are looked up by their names.
use Rattle.std.proofs.Common.{◌≡◌, ℕ, ◌+◌, ◌<◌, get_or, Bool, true, false, cond, List, [], ◌∷◌, ◌++◌, length, drop, Option, Some, None, refl, sym, ap, ◌∙◌}
use Rattle.std.specs.Prelude.{◌||◌, Vec, bytes_eq, find, option_map}
use Rattle.ic_base.specs.Reader.{◌>>=◌}
use Rattle.std.specs.Option.{is_some, option_flatten}
use Rattle.std.specs.Cmp.Lexicographic.{slice_cmp}
use Rattle.std.specs.Ordering.{nat_cmp, is_eq, match_ordering}
use Rattle.std.specs.declared.cmp.Ordering.{Ordering}
use Rattle.std.specs.declared.cmp.Ordering.TheVariants.{Less, Equal, Greater}
use Rattle.std.specs.declared.alloc.Global.{Global}
use Rattle.std.specs.BTreeMap.{is_at, insert_entry}
use Rattle.std.specs.Map.{lookup}
use Rattle.std.proofs.lemmas.Map.Text.{is_eq-slice_cmp}
use Rattle.std.proofs.lemmas.Slice.Eq.{bytes_eq-Decides}
use Rattle.std.proofs.lemmas.List.{at_drop_more}
use Rattle.wm_tree.specs.declared.parts.Export.{Export}
use Rattle.wm_valid.specs.Entries.{exported_function, exports_name, has_other, function_named}
use Rattle.wm_valid.specs.Methods.{Methods, exported_as, found_in, has_rest, Gains, HasMethods}
use Rattle.wm_valid.proofs.NameLemmas.{bytes_eq_comm, same_name}

-- ---- a map with one more method

-- what a list of methods has under the name
abbrev pub at_name : List ℕ → List (Vec ℕ Global × Option ℕ) → Option (Option ℕ)
at_name name entries = lookup (is_at (λ k. slice_cmp nat_cmp name k.items)) entries

test_of : (name : List ℕ) (k : Vec ℕ Global) → is_at (λ (x : Vec ℕ Global). slice_cmp nat_cmp name x.items) k ≡ bytes_eq k.items name
test_of name k = is_eq-slice_cmp name k.items ∙ bytes_eq_comm name k.items

-- two names that differ are not both the one that is sought
apart : (name : List ℕ) (k x : Vec ℕ Global) (v w : Option ℕ) (more : Option (Option ℕ)) (a b : Bool) → bytes_eq k.items name ≡ a → bytes_eq x.items name ≡ b → slice_cmp nat_cmp k.items x.items ≡ Greater → cond b (Some w) (cond a (Some v) more) ≡ cond a (Some v) (cond b (Some w) more)
apart name k x v w more true true p q e =
    let same : k.items ≡ x.items = (bytes_eq-Decides k.items name).0 p ∙ sym ((bytes_eq-Decides x.items name).0 q) in
    let yes : bytes_eq k.items x.items ≡ true = (bytes_eq-Decides k.items x.items).1 same in
    let no : bytes_eq k.items x.items ≡ false = sym (is_eq-slice_cmp k.items x.items) ∙ ap is_eq e in
    absurd cc
apart name k x v w more true false p q e = refl
apart name k x v w more false b p q e = refl

twice : {X : Type 0} (b : Bool) (p q r : X) → cond b p r ≡ cond b p (cond b q r)
twice true p q r = refl
twice false p q r = refl

one_more : (name : List ℕ) (k x : Vec ℕ Global) (v w : Option ℕ) (xs more : List (Vec ℕ Global × Option ℕ)) (o : Ordering) → slice_cmp nat_cmp k.items x.items ≡ o
    → at_name name more ≡ cond (bytes_eq k.items name) (Some v) (at_name name xs)
    → at_name name (match_ordering o ((k, v) ∷ (x, w) ∷ xs) ((x, v) ∷ xs) ((x, w) ∷ more)) ≡ cond (bytes_eq k.items name) (Some v) (at_name name ((x, w) ∷ xs))
one_more name k x v w xs more Less e next = ap (λ b. cond b (Some v) (at_name name ((x, w) ∷ xs))) (test_of name k)
one_more name k x v w xs more Equal e next =
    let here = test_of name x ∙ ap (λ ys. bytes_eq ys name) (sym (same_name k.items x.items e)) in
    rw here (twice (bytes_eq k.items name) (Some v) (Some w) (at_name name xs))
one_more name k x v w xs more Greater e next =
    rw (next, test_of name x) (apart name k x v w (at_name name xs) (bytes_eq k.items name) (bytes_eq x.items name) refl refl e)

pub at_name-insert_entry : (name : List ℕ) (entries : List (Vec ℕ Global × Option ℕ)) (k : Vec ℕ Global) (v : Option ℕ) → at_name name (insert_entry (λ x y. slice_cmp nat_cmp x.items y.items) entries k v) ≡ cond (bytes_eq k.items name) (Some v) (at_name name entries)
at_name-insert_entry name [] k v = ap (λ b. cond b (Some v) None) (test_of name k)
at_name-insert_entry name (x ∷ xs) k v = one_more name k x.0 v x.1 xs _ (slice_cmp nat_cmp k.items x.0.items) refl (at_name-insert_entry name xs k v)

-- ---- what is exported

-- the export, or what is found after it
by_test : (b : Bool) (e : Export) (o : Option Export) → option_map (λ (x : Export). exported_function x.kind) (cond b (Some e) o) ≡ cond b (Some (exported_function e.kind)) (option_map (λ (x : Export). exported_function x.kind) o)
by_test true e o = refl
by_test false e o = refl

exported_as-cons : (e : Export) (exports : List Export) (name : List ℕ) → exported_as (e ∷ exports) name ≡ cond (bytes_eq e.name name) (Some (exported_function e.kind)) (exported_as exports name)
exported_as-cons e exports name = by_test (bytes_eq e.name name) e (find (λ x. bytes_eq x.name name) exports)

-- a map with the export before those that it has
pub methods_more : (old new : Methods) (prefix : List ℕ) (exports : List Export) (n after : ℕ) (e : Export) → n < length exports → after ≡ n + 1 → e ≡ get_or exports n e → HasMethods old prefix (drop after exports) → Gains old new prefix e → HasMethods new prefix (drop n exports)
methods_more old new prefix exports n after e lt next is so_far gains = λ method.
    let name = prefix ++ method in
    gains method
    ∙ ap (cond (bytes_eq e.name name) (Some (exported_function e.kind))) (so_far method ∙ ap (λ k. exported_as (drop k exports) name) next)
    ∙ sym (exported_as-cons e (drop (n + 1) exports) name)
    ∙ ap (λ x. exported_as (x ∷ drop (n + 1) exports) name) is
    ∙ sym (at_drop_more (λ xs. exported_as xs name) exports n e lt)

some_or : {X : Type 0} (b : Bool) (x : X) (o : Option X) → is_some (cond b (Some x) o) ≡ (b || is_some o)
some_or true x o = refl
some_or false x o = refl

is_some-exported_as : (exports : List Export) (name : List ℕ) → is_some (exported_as exports name) ≡ exports_name exports name
is_some-exported_as [] name = refl
is_some-exported_as (e ∷ exports) name =
    ap is_some (exported_as-cons e exports name)
    ∙ some_or (bytes_eq e.name name) (exported_function e.kind) (exported_as exports name)
    ∙ ap (λ b. bytes_eq e.name name || b) (is_some-exported_as exports name)

-- a method of the map is exported after the prefix
pub has_rest-has_other : (methods : Methods) (prefix : List ℕ) (exports : List Export) → HasMethods methods prefix exports → (rest : Option (List ℕ)) → has_rest methods rest ≡ has_other exports prefix rest
has_rest-has_other methods prefix exports has None = refl
has_rest-has_other methods prefix exports has (Some method) = ap is_some (has method) ∙ is_some-exported_as exports (prefix ++ method)

flat : (o : Option Export) → option_flatten (option_map (λ (x : Export). exported_function x.kind) o) ≡ (o >>= λ x. exported_function x.kind)
flat None = refl
flat (Some x) = refl

-- the function of a method is exported after the prefix
pub function_found : (methods : Methods) (prefix : List ℕ) (exports : List Export) → HasMethods methods prefix exports → (method : List ℕ) → option_flatten (found_in methods method) ≡ function_named exports (prefix ++ method)
function_found methods prefix exports has method = ap option_flatten (has method) ∙ flat (find (λ x. bytes_eq x.name (prefix ++ method)) exports)

-- ---- one or the other

pub or_true : (a b : Bool) → a ≡ true → (a || b) ≡ true
or_true true b e = refl
or_true false b e = absurd cc

pub or_second : (a b : Bool) → a ≡ false → (a || b) ≡ b
or_second true b e = absurd cc
or_second false b e = refl
