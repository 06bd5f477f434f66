-- Taking and giving at a point whose operands are all known.
use Rattle.std.proofs.Common.{◌≡◌, Bool, true, false, cond, List, [], ◌∷◌, ◌++◌, map, Option, Some, None, refl, sym, ap, ◌∙◌, append_assoc}
use Rattle.std.specs.Prelude.{reverse}
use Rattle.std.proofs.lemmas.List.{reverse-append}
use Rattle.ic_base.specs.Reader.{◌>>=◌}
use Rattle.ic_base.proofs.Steps.{bind_some, some_is}
use Rattle.wm_tree.specs.declared.types.ValType.{ValType}
use Rattle.wm_tree.specs.declared.types.ValType.TheVariants.{I32, I64}
use Rattle.wm_tree.specs.declared.types.FuncType.{FuncType}
use Rattle.wm_tree.specs.declared.class.Signature.{Signature}
use Rattle.wm_typing.specs.declared.operand.Operand.{Operand}
use Rattle.wm_typing.specs.declared.operand.Operand.TheVariants.{Known}
use Rattle.wm_typing.specs.Points.{Point, point, same_type, common, pop, take, take_maybe, take_all, give, give_maybe, give_all}
use Rattle.wm_typing.specs.Typed.{by_signature, by_type, select}
use Rattle.wm_typing.specs.Runs.{types_of, Takes, Has, Applies, Calls}

-- the point of these operands, none of any type
abbrev pub known : List ValType → Point
known ts = point (map Known ts) false

-- ---- tests

pub tested : {A : Type 0} (b : Bool) (o : Option A) (y : A) → cond b o None ≡ Some y → (b ≡ true) × (o ≡ Some y)
tested true o y e = (refl, e)
tested false o y e = absurd cc

pub same_is : (t u : ValType) → same_type t u ≡ true → t ≡ u
same_is I32 I32 e = refl
same_is I64 I64 e = refl
same_is I32 I64 e = absurd cc
same_is I64 I32 e = absurd cc

-- ---- one operand

-- the operands are these types and those left
pub record Took (top types : List ValType) (q : Point) : Type 0 where
  pub left : List ValType
  pub were : types ≡ top ++ left
  pub now : q ≡ known left

pub take_known : (t : ValType) (ts : List ValType) (q : Point) → take t (known ts) ≡ Some q → Took (t ∷ []) ts q
take_known t [] q e = absurd cc
take_known t (u ∷ ts) q e =
    let x = tested (same_type t u) (Some (known ts)) q e in
    record { left = ts; were = ap (λ (v : ValType). v ∷ ts) (sym (same_is t u x.0)); now = sym (some_is (known ts) q x.1) }

pub take_maybe_known : (t : Option ValType) (ts : List ValType) (q : Point) → take_maybe t (known ts) ≡ Some q → Took (types_of t) ts q
take_maybe_known None ts q e = record { left = ts; were = refl; now = sym (some_is (known ts) q e) }
take_maybe_known (Some t) ts q e = take_known t ts q e

-- one after the other
pub took_both : (top more ts : List ValType) (p q : Point) (a : Took top ts p) → Took more a.left q → Took (top ++ more) ts q
took_both top more ts p q a b =
    record { left = b.left; were = a.were ∙ ap (λ (us : List ValType). top ++ us) b.were ∙ sym (append_assoc top more b.left); now = b.now }

pub took_as : (top more ts : List ValType) (q : Point) → top ≡ more → Took top ts q → Took more ts q
took_as top more ts q e a = record { left = a.left; were = a.were ∙ ap (λ (us : List ValType). us ++ a.left) e; now = a.now }

-- ---- several

pub take_all_known : (us ts : List ValType) (q : Point) → take_all us (known ts) ≡ Some q → Took (reverse us) ts q
take_all_known [] ts q e = record { left = ts; were = refl; now = sym (some_is (known ts) q e) }
take_all_known (u ∷ us) ts q e =
    let x = bind_some (take_all us (known ts)) (take u) q e in
    let a = take_all_known us ts x.0 x.1 in
    let b = take_known u a.left q (ap (take u) (sym a.now) ∙ x.2) in
    took_as (reverse us ++ (u ∷ [])) (reverse (u ∷ us)) ts q (sym (reverse-append (u ∷ []) us)) (took_both (reverse us) (u ∷ []) ts x.0 q a b)

pub give_maybe_known : (t : Option ValType) (ts : List ValType) → give_maybe t (known ts) ≡ known (types_of t ++ ts)
give_maybe_known None ts = refl
give_maybe_known (Some t) ts = refl

pub give_all_known : (us ts : List ValType) → give_all us (known ts) ≡ known (reverse us ++ ts)
give_all_known [] ts = refl
give_all_known (u ∷ us) ts =
    give_all_known us (u ∷ ts)
    ∙ ap known (sym (append_assoc (reverse us) (u ∷ []) ts) ∙ ap (λ (vs : List ValType). vs ++ ts) (sym (reverse-append (u ∷ []) us)))

-- ---- instructions

-- what holds of the types at a point, if they are all known
abbrev pub Then : Point → (List ValType → Type 0) → Type 0
Then q next = (ts : List ValType) → q ≡ known ts → next ts

pub takes_on : (top ts : List ValType) (q : Point) (next : List ValType → Type 0) → Took top ts q → Then q next → Takes top ts next
takes_on top ts q next a then_next = (a.left, a.were, then_next a.left a.now)

pub has : (top ts : List ValType) (q : Point) → Took top ts q → Has top ts
has top ts q a = (a.left, a.were, tt)

pub applies : (s : Signature) (ts : List ValType) (q : Point) (next : List ValType → Type 0) → by_signature s (known ts) ≡ Some q → Then q next → Applies s ts next
applies s ts q next e then_next =
    let x = bind_some (take_maybe s.first (known ts)) (λ p. take_maybe s.second p >>= λ p. take_maybe s.third p >>= λ p. Some (give_maybe s.gives p)) q e in
    let y = bind_some (take_maybe s.second x.0) (λ p. take_maybe s.third p >>= λ p. Some (give_maybe s.gives p)) q x.2 in
    let z = bind_some (take_maybe s.third y.0) (λ p. Some (give_maybe s.gives p)) q y.2 in
    applied s ts x.0 y.0 z.0 q next x.1 y.1 z.1 (some_is (give_maybe s.gives z.0) q z.2) then_next
  where
    applied : (s : Signature) (ts : List ValType) (p1 p2 p3 q : Point) (next : List ValType → Type 0)
        → take_maybe s.first (known ts) ≡ Some p1 → take_maybe s.second p1 ≡ Some p2 → take_maybe s.third p2 ≡ Some p3 → give_maybe s.gives p3 ≡ q
        → Then q next → Applies s ts next
    applied s ts p1 p2 p3 q next e1 e2 e3 e4 then_next =
        let a = take_maybe_known s.first ts p1 e1 in
        let b = take_maybe_known s.second a.left p2 (ap (take_maybe s.second) (sym a.now) ∙ e2) in
        let d = take_maybe_known s.third b.left p3 (ap (take_maybe s.third) (sym b.now) ∙ e3) in
        let all = took_both (types_of s.first) (types_of s.second ++ types_of s.third) ts p1 p3 a (took_both (types_of s.second) (types_of s.third) a.left p2 p3 b d) in
        (all.left, all.were, then_next (types_of s.gives ++ all.left) (sym e4 ∙ ap (give_maybe s.gives) all.now ∙ give_maybe_known s.gives all.left))

pub calls : (f : FuncType) (ts : List ValType) (q : Point) (next : List ValType → Type 0) → by_type f (known ts) ≡ Some q → Then q next → Calls f ts next
calls f ts q next e then_next =
    let x = bind_some (take_all f.params (known ts)) (λ p. Some (give_all f.results p)) q e in
    let a = take_all_known f.params ts x.0 x.1 in
    (a.left, a.were, then_next (reverse f.results ++ a.left) (sym (some_is (give_all f.results x.0) q x.2) ∙ ap (give_all f.results) a.now ∙ give_all_known f.results a.left))

-- the two operands that are chosen between
select_known : (t : ValType) (ts : List ValType) (q : Point) (next : List ValType → Type 0)
    → (pop (known ts) >>= λ x. pop x.1 >>= λ y. common x.0 y.0 >>= λ t. Some (give t y.1)) ≡ Some q → Then q next
    → (t : ValType) × Takes (t ∷ t ∷ []) ts (λ left. next (t ∷ left))
select_known t [] q next e then_next = absurd cc
select_known t (u ∷ []) q next e then_next = absurd cc
select_known t (u ∷ v ∷ ts) q next e then_next =
    let x = bind_some (cond (same_type u v) (Some (Known u)) None) (λ t. Some (give t (known ts))) q e in
    let y = tested (same_type u v) (Some (Known u)) x.0 x.1 in
    let which : Known u ≡ x.0 = some_is (Known u) x.0 y.1 in (
      u,
      (
        ts,
        ap (λ (w : ValType). u ∷ w ∷ ts) (sym (same_is u v y.0)),
        then_next (u ∷ ts) (sym (some_is (give x.0 (known ts)) q x.2) ∙ ap (λ (w : Operand). give w (known ts)) (sym which)),
      ),
    )

pub selects : (ts : List ValType) (q : Point) (next : List ValType → Type 0) → select (known ts) ≡ Some q → Then q next
    → (t : ValType) × Takes (I32 ∷ t ∷ t ∷ []) ts (λ left. next (t ∷ left))
selects ts q next e then_next =
    let x = bind_some (take I32 (known ts)) (λ p. pop p >>= λ x. pop x.1 >>= λ y. common x.0 y.0 >>= λ t. Some (give t y.1)) q e in
    let a = take_known I32 ts x.0 x.1 in
    let b = select_known I32 a.left q next (ap (λ p. pop p >>= λ x. pop x.1 >>= λ y. common x.0 y.0 >>= λ t. Some (give t y.1)) (sym a.now) ∙ x.2) then_next in
    (b.0, (b.1.0, a.were ∙ ap (λ (us : List ValType). I32 ∷ us) b.1.1, b.1.2))

pub drops : (ts : List ValType) (q : Point) (next : List ValType → Type 0) → (pop (known ts) >>= λ x. Some x.1) ≡ Some q → Then q next
    → (t : ValType) × Takes (t ∷ []) ts next
drops [] q next e then_next = absurd cc
drops (t ∷ ts) q next e then_next = (t, (ts, refl, then_next ts (sym (some_is (known ts) q e))))
