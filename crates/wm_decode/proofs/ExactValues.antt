-- Values are read exactly, and so is what is made of exact parts.
use Rattle.std.proofs.Common.{◌≡◌, ℕ, Bool, true, false, cond, List, [], ◌∷◌, ◌++◌, length, Option, Some, None, nat_eq, refl, sym, ap, subst, ◌∙◌, append_assoc, eq-eqb}
use Rattle.std.proofs.lemmas.Bool.{eqb-true}
use Rattle.std.specs.List.{AllByRecursion}
use Rattle.std.specs.Str.{is_utf8}
use Rattle.std.proofs.lemmas.Str.{IsUtf8-from_is_utf8, is_utf8-from_IsUtf8}
use Rattle.ic_base.specs.Reader.{Reader, ◌>>=◌, byte_at, bytes_at, map_at}
use Rattle.ic_base.specs.Spelling.{Spelling}
use Rattle.ic_base.specs.Exact.{Exact}
use Rattle.ic_base.proofs.Steps.{bind_some}
use Rattle.ic_base.proofs.Exact.{exact_of, taken, reworded, byte_exact, bytes_exact, both_exact, map_exact, filter_exact, filter_map_exact, vec_exact}
use Rattle.ic_leb.specs.declared.width.Width.TheVariants.{Wasm32}
use Rattle.wm_decode.specs.Values.{SpellsU32, SpellsPair, SpellsList, SpellsBytes, SpellsName, After, Coded, lookup}
use Rattle.wm_decode.specs.Readers.{u32_at, pair_at, list_at, vec_bytes_at, name_at, coded_at, after_at, chosen_at}
use Rattle.ic_leb.proofs.Readers.{unsigned_exact}

pub u32_exact : Exact SpellsU32 u32_at
u32_exact = unsigned_exact Wasm32

pub pair_exact : {A B : Type 0} (P : Spelling A) (Q : Spelling B) (first : Reader A) (second : Reader B)
    → Exact P first → Exact Q second → Exact (SpellsPair P Q) (pair_at first second)
pair_exact P Q first second p q = both_exact P (λ _. Q) first (λ _. second) p (λ _. q)

pub list_exact : {A : Type 0} (P : Spelling A) (read : Reader A) → Exact P read → Exact (SpellsList P) (list_at read)
list_exact P read exact = vec_exact SpellsU32 P u32_at read u32_exact exact

-- another value in place of the one that is read
pub carried : {A B : Type 0} (P : Spelling A) (read : Reader A) (to : A → B) (from : B → A)
    → ((x : A) → from (to x) ≡ x) → ((y : B) → to (from y) ≡ y) → Exact P read → Exact (λ y. P (from y)) (map_at to read)
carried {A} P read to from there back exact =
    reworded (λ y bytes. (x : A) × (to x ≡ y) × P x bytes) (λ y. P (from y)) (map_at to read)
    (λ y bytes p. (from y, back y, p))
    (λ y bytes p. subst (λ (x : A). P x bytes) (sym (there p.0) ∙ ap from p.1) p.2)
    (map_exact P read to exact)

-- a test that passed
pub tested : {A : Type 0} (test : Bool) (read : Option A) (x : A) → cond test read None ≡ Some x → (test ≡ true) × (read ≡ Some x)
tested true read x e = (refl, e)
tested false read x e = absurd cc

-- a byte that was read comes first
pub first_byte : (bytes : List ℕ) (x : ℕ × List ℕ) → byte_at bytes ≡ Some x → bytes ≡ x.0 ∷ x.1
first_byte [] x e = absurd cc
first_byte (b ∷ bytes) x e = cc

pub after_exact : {A : Type 0} (byte : ℕ) (P : Spelling A) (read : Reader A) → Exact P read → Exact (λ x. After byte (P x)) (after_at byte read)
after_exact {A} byte P read exact = exact_of (λ x. After byte (P x)) (after_at byte read)
    (λ x front rest p. rw (p.whole, eq-eqb byte byte refl) (exact.again x p.rest rest p.behind))
    (λ bytes z e.
    let a = bind_some (byte_at bytes) (λ b. cond (nat_eq b.0 byte) (read b.1) None) z e in
    let g = tested (nat_eq a.0.0 byte) (read a.0.1) z a.2 in
    let t = taken P read exact a.0.1 z g.1 in
    let first : bytes ≡ byte ∷ a.0.1 = first_byte bytes a.0 a.1 ∙ ap (λ (b : ℕ). b ∷ a.0.1) (eqb-true a.0.0 byte g.0) in
    record {
      front = byte ∷ t.front;
      parts = first ∙ ap (λ (r : List ℕ). byte ∷ r) t.parts;
      spelled = record { rest = t.front; whole = refl; behind = t.spelled };
    })

-- a byte, and after it a spelling for the byte's row
pub record Chosen {K A : Type 0} (choice : ℕ → Option K) (P : K → Spelling A) (x : A) (bytes : List ℕ) : Type 0 where
  pub byte : ℕ
  pub row : K
  pub found : choice byte ≡ Some row
  pub spelled : After byte (P row x) bytes

pub chosen_exact : {K A : Type 0} (choice : ℕ → Option K) (P : K → Spelling A) (read : K → Reader A)
    → ((k : K) → Exact (P k) (read k)) → Exact (Chosen choice P) (chosen_at choice read)
chosen_exact {K} {A} choice P read exact = exact_of (Chosen choice P) (chosen_at choice read)
    (λ x front rest p. rw (p.spelled.whole, p.found) ((exact p.row).again x p.spelled.rest rest p.spelled.behind))
    (λ bytes z e.
    let a = bind_some (byte_at bytes) (λ b. choice b.0 >>= λ k. read k b.1) z e in
    let b = bind_some (choice a.0.0) (λ k. read k a.0.1) z a.2 in
    let t = taken (P b.0) (read b.0) (exact b.0) a.0.1 z b.2 in
    record {
      front = a.0.0 ∷ t.front;
      parts = first_byte bytes a.0 a.1 ∙ ap (λ (r : List ℕ). a.0.0 ∷ r) t.parts;
      spelled = record { byte = a.0.0; row = b.0; found = b.1; spelled = record { rest = t.front; whole = refl; behind = t.spelled } };
    })

-- what holds of each row holds of the one that is found
pub found_in : {K : Type 0} (P : ℕ → K → Type 0) (rows : List (ℕ × K)) → AllByRecursion (λ r. P r.0 r.1) rows
    → (n : ℕ) (k : K) → lookup n rows ≡ Some k → P n k
found_in P [] all n k e = absurd cc
found_in {K} P (r ∷ rows) all n k e =
    elim (nat_eq n r.0) as (λ t. nat_eq n r.0 ≡ t → cond t (Some r.1) (lookup n rows) ≡ Some k → P n k) [
      | true ↦ λ same here. let k_is : r.1 ≡ k = cc in subst (P n) k_is (subst (λ (m : ℕ). P m r.1) (sym (eqb-true n r.0 same)) all.0)
      | false ↦ λ _ later. found_in P rows all.1 n k later
    ] refl e

pub coded_exact : {A : Type 0} (rows : List (ℕ × A)) → Exact (Coded rows) (coded_at rows)
coded_exact {A} rows =
    reworded (λ x bytes. (b : ℕ) × (lookup b rows ≡ Some x) × (bytes ≡ b ∷ [])) (Coded rows) (coded_at rows)
    (λ x bytes p. (p.byte, p.found, p.whole))
    (λ x bytes p. record { byte = p.0; found = p.1; whole = p.2 })
    (filter_map_exact (λ b bytes. bytes ≡ b ∷ []) byte_at (λ b. lookup b rows) byte_exact)

pub vec_bytes_exact : Exact SpellsBytes vec_bytes_at
unfolding vec_bytes_at
vec_bytes_exact = exact_of SpellsBytes vec_bytes_at
    (λ x front rest p. rw (
      p.whole,
      append_assoc p.count x rest,
      u32_exact.again (length x) p.count (x ++ rest) p.counted,
    ) ((bytes_exact (length x)).again x x rest (refl, refl)))
    (λ bytes z e.
    let a = bind_some (u32_at bytes) (λ n. bytes_at n.0 n.1) z e in
    let s = taken SpellsU32 u32_at u32_exact bytes a.0 a.1 in
    let t = taken (λ xs bs. (length xs ≡ a.0.0) × (bs ≡ xs)) (bytes_at a.0.0) (bytes_exact a.0.0) a.0.1 z a.2 in
    let parts : a.0.1 ≡ z.0 ++ z.1 = t.parts ∙ ap (λ (r : List ℕ). r ++ z.1) t.spelled.1 in
    record {
      front = s.front ++ z.0;
      parts = s.parts ∙ ap (λ (r : List ℕ). s.front ++ r) parts ∙ sym (append_assoc s.front z.0 z.1);
      spelled = record { count = s.front; whole = refl; counted = subst (λ (n : ℕ). SpellsU32 n s.front) (sym t.spelled.0) s.spelled };
    })

pub name_exact : Exact SpellsName name_at
unfolding name_at
name_exact =
    reworded (λ x bytes. (is_utf8 x ≡ true) × SpellsBytes x bytes) SpellsName name_at
    (λ x bytes p. (is_utf8-from_IsUtf8 x p.utf8, p.spelled))
    (λ x bytes p. record { utf8 = IsUtf8-from_is_utf8 x p.0; spelled = p.1 })
    (filter_exact SpellsBytes vec_bytes_at is_utf8 vec_bytes_exact)
