-- Exact readers, of exact parts.
use Rattle.std.proofs.Common.{◌≡◌, ℕ, zero, suc, ◌≤◌, Bool, true, false, cond, ltb, List, [], ◌∷◌, ◌++◌, length, take, drop, Option, Some, None, refl, sym, ap, subst, ◌∙◌, append_assoc, arith}
use Rattle.std.proofs.lemmas.Bool.{ltb-false, le-ltb}
use Rattle.std.proofs.lemmas.List.{append-nil, append_cancel_right, take_at, drop_at, take-append-drop, length-append, length-take-le, nil_from_length}
use Rattle.ic_base.specs.Reader.{Reader, ◌>>=◌, empty_at, byte_at, bytes_at, both_at, map_at, filter_map_at, filter_at, many_at, vec_at, ended, whole, sized_at}
use Rattle.ic_base.specs.Spelling.{Spelling, SpellsBoth, SpellsMany, SpellsVec, SpellsSized}
use Rattle.ic_base.specs.Exact.{Exact}
use Rattle.ic_base.proofs.Steps.{bind_some, some_is, passed, guarded}

-- a front of the bytes spells the value, and the rest comes after it
pub record Takes {A : Type 0} (P : Spelling A) (bytes : List ℕ) (x : A × List ℕ) : Type 0 where
  pub front : List ℕ
  pub parts : bytes ≡ front ++ x.1
  pub spelled : P x.0 front

-- Exact, with what is read as a pair
pub exact_of : {A : Type 0} (P : Spelling A) (read : Reader A)
    → ((x : A) (front rest : List ℕ) → P x front → read (front ++ rest) ≡ Some (x, rest))
    → ((bytes : List ℕ) (x : A × List ℕ) → read bytes ≡ Some x → Takes P bytes x) → Exact P read
exact_of P read again takes = record {
  again = again;
  takes = λ bytes x rest e. let t = takes bytes (x, rest) e in (t.front, t.parts, t.spelled);
}

-- the front that an exact reader took
pub taken : {A : Type 0} (P : Spelling A) (read : Reader A) → Exact P read → (bytes : List ℕ) (x : A × List ℕ) → read bytes ≡ Some x → Takes P bytes x
taken P read exact bytes x e = let t = exact.takes bytes x.0 x.1 e in record { front = t.0; parts = t.1; spelled = t.2 }

-- one front after another
joined : (bytes front middle back rest : List ℕ) → bytes ≡ front ++ middle → middle ≡ back ++ rest → bytes ≡ (front ++ back) ++ rest
joined bytes front middle back rest e f = e ∙ ap (λ (r : List ℕ). front ++ r) f ∙ sym (append_assoc front back rest)

-- No spelling begins another.
pub one_spelling : {A : Type 0} (P : Spelling A) (read : Reader A) → Exact P read
    → (x y : A) (front rest front' rest' : List ℕ) → P x front → P y front' → front ++ rest ≡ front' ++ rest' → (x ≡ y) × (front ≡ front')
one_spelling {A} P read exact x y front rest front' rest' p q e =
    let same : (x, rest) ≡ (y, rest') = some_is {A = A × List ℕ} (x, rest) (y, rest') (sym (exact.again x front rest p) ∙ ap read e ∙ exact.again y front' rest' q) in
    let rests : rest ≡ rest' = ap (λ (z : A × List ℕ). z.1) same in
    (ap (λ (z : A × List ℕ). z.0) same, append_cancel_right front front' rest (e ∙ ap (λ (r : List ℕ). front' ++ r) (sym rests)))

-- a spelling in other words
pub reworded : {A : Type 0} (P Q : Spelling A) (read : Reader A) → ((x : A) (bytes : List ℕ) → Q x bytes → P x bytes) → ((x : A) (bytes : List ℕ) → P x bytes → Q x bytes)
    → Exact P read → Exact Q read
reworded P Q read from to exact = record {
  again = λ x front rest q. exact.again x front rest (from x front q);
  takes = λ bytes x rest e. let t = exact.takes bytes x rest e in (t.0, t.1, to x t.0 t.2);
}

-- ---- a value that takes no byte, one byte, n bytes

pub empty_exact : {A : Type 0} (x : A) → Exact (λ y bytes. (x ≡ y) × (bytes ≡ [])) (empty_at x)
empty_exact {A} x = exact_of (λ y bytes. (x ≡ y) × (bytes ≡ [])) (empty_at x)
    (λ y front rest p. rw (p.1, p.0) refl)
    (λ bytes y e. let same : (x, bytes) ≡ y = some_is {A = A × List ℕ} (x, bytes) y e in
    record { front = []; parts = ap (λ (z : A × List ℕ). z.1) same; spelled = (ap (λ (z : A × List ℕ). z.0) same, refl) })

byte_takes : (bytes : List ℕ) (x : ℕ × List ℕ) → byte_at bytes ≡ Some x → Takes (λ b bs. bs ≡ b ∷ []) bytes x
byte_takes [] x e = absurd cc
byte_takes (b ∷ bytes) x e = subst (Takes (λ b bs. bs ≡ b ∷ []) (b ∷ bytes)) (some_is {A = ℕ × List ℕ} (b, bytes) x e) (record { front = b ∷ []; parts = refl; spelled = refl })

pub byte_exact : Exact (λ b bytes. bytes ≡ b ∷ []) byte_at
byte_exact = exact_of (λ b bytes. bytes ≡ b ∷ []) byte_at (λ b front rest p. rw p refl) byte_takes

pub bytes_exact : (n : ℕ) → Exact (λ xs bytes. (length xs ≡ n) × (bytes ≡ xs)) (bytes_at n)
bytes_exact n = exact_of (λ xs bytes. (length xs ≡ n) × (bytes ≡ xs)) (bytes_at n)
    (λ xs front rest p.
    let long : ltb (length (xs ++ rest)) n ≡ false = le-ltb _ _ (omega (arith, length-append xs rest, p.0)) in
    rw (p.1, long, take_at xs rest n p.0, drop_at xs rest n p.0) refl)
    (λ bytes x e.
    let g = guarded {A = List ℕ × List ℕ} (ltb (length bytes) n) (take n bytes, drop n bytes) x e in
    let long : n ≤ length bytes = ltb-false _ _ g.0 in
    subst (Takes (λ xs bs. (length xs ≡ n) × (bs ≡ xs)) bytes) g.1
    (record { front = take n bytes; parts = sym (take-append-drop n bytes); spelled = (length-take-le n bytes long, refl) }))

-- ---- one reader after the other

pub both_exact : {A B : Type 0} (P : Spelling A) (Q : A → Spelling B) (read : Reader A) (next : A → Reader B)
    → Exact P read → ((x : A) → Exact (Q x) (next x)) → Exact (SpellsBoth P Q) (both_at read next)
both_exact {A} {B} P Q read next first second = exact_of (SpellsBoth P Q) (both_at read next)
    (λ x front rest p. rw (p.whole, append_assoc p.front p.rest rest, first.again x.0 p.front (p.rest ++ rest) p.first, (second x.0).again x.1 p.rest rest p.second) refl)
    (λ bytes z e.
    let a = bind_some (read bytes) (λ x. next x.0 x.1 >>= λ y. Some ((x.0, y.0), y.1)) z e in
    let b = bind_some (next a.0.0 a.0.1) (λ y. Some ((a.0.0, y.0), y.1)) z a.2 in
    let s = taken P read first bytes a.0 a.1 in
    let t = taken (Q a.0.0) (next a.0.0) (second a.0.0) a.0.1 b.0 b.1 in
    subst (Takes (SpellsBoth P Q) bytes) (some_is {A = (A × B) × List ℕ} ((a.0.0, b.0.0), b.0.1) z b.2)
    (record {
      front = s.front ++ t.front;
      parts = joined bytes s.front a.0.1 t.front b.0.1 s.parts t.parts;
      spelled = record { front = s.front; rest = t.front; whole = refl; first = s.spelled; second = t.spelled };
    }))

pub filter_map_exact : {A B : Type 0} (P : Spelling A) (read : Reader A) (f : A → Option B) → Exact P read → Exact (λ y bytes. (x : A) × (f x ≡ Some y) × P x bytes) (filter_map_at f read)
filter_map_exact {A} {B} P read f exact = exact_of (λ y bytes. (x : A) × (f x ≡ Some y) × P x bytes) (filter_map_at f read)
    (λ y front rest p. rw (exact.again p.0 front rest p.2, p.1) refl)
    (λ bytes z e.
    let a = bind_some (read bytes) (λ x. f x.0 >>= λ y. Some (y, x.1)) z e in
    let b = bind_some (f a.0.0) (λ y. Some (y, a.0.1)) z a.2 in
    let t = taken P read exact bytes a.0 a.1 in
    subst (Takes (λ y bs. (x : A) × (f x ≡ Some y) × P x bs) bytes) (some_is {A = B × List ℕ} (b.0, a.0.1) z b.2)
    (record { front = t.front; parts = t.parts; spelled = (a.0.0, b.1, t.spelled) }))

pub map_exact : {A B : Type 0} (P : Spelling A) (read : Reader A) (f : A → B) → Exact P read → Exact (λ y bytes. (x : A) × (f x ≡ y) × P x bytes) (map_at f read)
map_exact {A} {B} P read f exact = exact_of (λ y bytes. (x : A) × (f x ≡ y) × P x bytes) (map_at f read)
    (λ y front rest p. rw (exact.again p.0 front rest p.2, p.1) refl)
    (λ bytes z e.
    let a = bind_some (read bytes) (λ x. Some (f x.0, x.1)) z e in
    let t = taken P read exact bytes a.0 a.1 in
    subst (Takes (λ y bs. (x : A) × (f x ≡ y) × P x bs) bytes) (some_is {A = B × List ℕ} (f a.0.0, a.0.1) z a.2)
    (record { front = t.front; parts = t.parts; spelled = (a.0.0, refl, t.spelled) }))

pub filter_exact : {A : Type 0} (P : Spelling A) (read : Reader A) (test : A → Bool) → Exact P read → Exact (λ x bytes. (test x ≡ true) × P x bytes) (filter_at test read)
filter_exact {A} P read test exact = exact_of (λ x bytes. (test x ≡ true) × P x bytes) (filter_at test read)
    (λ x front rest p. rw (exact.again x front rest p.1, p.0) refl)
    (λ bytes z e.
    let a = bind_some (read bytes) (λ x. cond (test x.0) (Some x) None) z e in
    let b = passed {A = A × List ℕ} (test a.0.0) a.0 z a.2 in
    let t = taken P read exact bytes a.0 a.1 in
    subst (Takes (λ x bs. (test x ≡ true) × P x bs) bytes) b.1 (record { front = t.front; parts = t.parts; spelled = (b.0, t.spelled) }))

-- ---- many values

many-again : {A : Type 0} (P : Spelling A) (read : Reader A) → Exact P read → (xs : List A) (front rest : List ℕ) → SpellsMany P xs front → many_at read (length xs) (front ++ rest) ≡ Some (xs, rest)
unfolding many_at
many-again P read exact [] front rest p = rw p refl
many-again P read exact (x ∷ xs) front rest p = rw (p.2, append_assoc p.0 p.1 rest, exact.again x p.0 (p.1 ++ rest) p.3, many-again P read exact xs p.1 rest p.4) refl

many-takes : {A : Type 0} (P : Spelling A) (read : Reader A) → Exact P read → (n : ℕ) (bytes : List ℕ) (z : List A × List ℕ) → many_at read n bytes ≡ Some z → Takes (λ xs bs. (length xs ≡ n) × SpellsMany P xs bs) bytes z
unfolding many_at
many-takes {A} P read exact zero bytes z e =
    subst (Takes (λ xs bs. (length xs ≡ 0) × SpellsMany P xs bs) bytes) (some_is {A = List A × List ℕ} ([], bytes) z e) (record { front = []; parts = refl; spelled = (refl, refl) })
many-takes {A} P read exact (suc n) bytes z e =
    let a = bind_some (read bytes) (λ x. many_at read n x.1 >>= λ xs. Some (x.0 ∷ xs.0, xs.1)) z e in
    let b = bind_some (many_at read n a.0.1) (λ xs. Some (a.0.0 ∷ xs.0, xs.1)) z a.2 in
    let s = taken P read exact bytes a.0 a.1 in
    let t = many-takes P read exact n a.0.1 b.0 b.1 in
    subst (Takes (λ xs bs. (length xs ≡ suc n) × SpellsMany P xs bs) bytes) (some_is {A = List A × List ℕ} (a.0.0 ∷ b.0.0, b.0.1) z b.2)
    (record {
      front = s.front ++ t.front;
      parts = joined bytes s.front a.0.1 t.front b.0.1 s.parts t.parts;
      spelled = (ap suc t.spelled.0, (s.front, t.front, refl, s.spelled, t.spelled.1));
    })

pub many_exact : {A : Type 0} (P : Spelling A) (read : Reader A) (n : ℕ) → Exact P read → Exact (λ xs bytes. (length xs ≡ n) × SpellsMany P xs bytes) (many_at read n)
many_exact P read n exact = exact_of (λ xs bytes. (length xs ≡ n) × SpellsMany P xs bytes) (many_at read n)
    (λ xs front rest p. subst (λ (k : ℕ). many_at read k (front ++ rest) ≡ Some (xs, rest)) p.0 (many-again P read exact xs front rest p.1))
    (many-takes P read exact n)

pub vec_exact : {A : Type 0} (Count : Spelling ℕ) (P : Spelling A) (count : Reader ℕ) (read : Reader A) → Exact Count count → Exact P read → Exact (SpellsVec Count P) (vec_at count read)
vec_exact {A} Count P count read counts exact = exact_of (SpellsVec Count P) (vec_at count read)
    (λ xs front rest p. rw (p.whole, append_assoc p.front p.rest rest, counts.again (length xs) p.front (p.rest ++ rest) p.count) (many-again P read exact xs p.rest rest p.values))
    (λ bytes z e.
    let a = bind_some (count bytes) (λ n. many_at read n.0 n.1) z e in
    let s = taken Count count counts bytes a.0 a.1 in
    let t = many-takes P read exact a.0.0 a.0.1 z a.2 in
    record {
      front = s.front ++ t.front;
      parts = joined bytes s.front a.0.1 t.front z.1 s.parts t.parts;
      spelled = record { front = s.front; rest = t.front; whole = refl; count = subst (λ (k : ℕ). Count k s.front) (sym t.spelled.0) s.spelled; values = t.spelled.1 };
    })

-- ---- a value that takes all of the bytes

pub whole_again : {A : Type 0} (P : Spelling A) (read : Reader A) → Exact P read → (x : A) (bytes : List ℕ) → P x bytes → whole read bytes ≡ Some x
whole_again P read exact x bytes p =
    let e : read bytes ≡ Some (x, []) = ap read (sym (append-nil bytes)) ∙ exact.again x bytes [] p in
    rw e refl

pub whole_takes : {A : Type 0} (P : Spelling A) (read : Reader A) → Exact P read → (x : A) (bytes : List ℕ) → whole read bytes ≡ Some x → P x bytes
whole_takes P read exact x bytes e =
    let a = bind_some (read bytes) ended x e in
    let g = guarded (ltb 0 (length a.0.1)) a.0.0 x a.2 in
    let none_left : a.0.1 ≡ [] = nil_from_length a.0.1 (omega (arith, ltb-false 0 (length a.0.1) g.0)) in
    let t = taken P read exact bytes a.0 a.1 in
    let all : bytes ≡ t.front = t.parts ∙ ap (λ (r : List ℕ). t.front ++ r) none_left ∙ append-nil t.front in
    subst (P x) (sym all) (subst (λ y. P y t.front) g.1 t.spelled)

pub sized_exact : {A : Type 0} (Size : Spelling ℕ) (P : Spelling A) (size : Reader ℕ) (read : Reader A) → Exact Size size → Exact P read → Exact (SpellsSized Size P) (sized_at size read)
sized_exact {A} Size P size read sizes exact = exact_of (SpellsSized Size P) (sized_at size read)
    (λ x front rest p. rw (
      p.whole,
      append_assoc p.front p.content rest,
      sizes.again (length p.content) p.front (p.content ++ rest) p.size,
      (bytes_exact (length p.content)).again p.content p.content rest (refl, refl),
      whole_again P read exact x p.content p.value,
    ) refl)
    (λ bytes z e.
    let a = bind_some (size bytes) (λ n. bytes_at n.0 n.1 >>= λ content. whole read content.0 >>= λ x. Some (x, content.1)) z e in
    let b = bind_some (bytes_at a.0.0 a.0.1) (λ content. whole read content.0 >>= λ x. Some (x, content.1)) z a.2 in
    let c = bind_some (whole read b.0.0) (λ x. Some (x, b.0.1)) z b.2 in
    let s = taken Size size sizes bytes a.0 a.1 in
    let t = taken (λ xs bs. (length xs ≡ a.0.0) × (bs ≡ xs)) (bytes_at a.0.0) (bytes_exact a.0.0) a.0.1 b.0 b.1 in
    subst (Takes (SpellsSized Size P) bytes) (some_is {A = A × List ℕ} (c.0, b.0.1) z c.2)
    (record {
      front = s.front ++ b.0.0;
      parts = joined bytes s.front a.0.1 b.0.0 b.0.1 s.parts (t.parts ∙ ap (λ (r : List ℕ). r ++ b.0.1) t.spelled.1);
      spelled = record { front = s.front; content = b.0.0; whole = refl; size = subst (λ (k : ℕ). Size k s.front) (sym t.spelled.0) s.spelled; value = whole_takes P read exact c.0 b.0.0 c.1 };
    }))
