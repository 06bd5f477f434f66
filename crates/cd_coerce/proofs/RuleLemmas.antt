-- the rule by which a type is below one that is neither reserved nor an opt
use Rattle.std.proofs.Common.{◌≡◌, ◌⊎◌, inl, inr, ℕ, true, false, List, refl, sym, ◌∙◌, ap, subst}
use Rattle.std.specs.List.{AllByRecursion}
use Rattle.cd_types.specs.declared.primitive.Primitive.{Primitive}
use Rattle.cd_types.specs.declared.primitive.Primitive.TheVariants.{Nat, Int, Nat8, Empty, Reserved}
use Rattle.cd_types.specs.declared.entry.TyRef.{TyRef}
use Rattle.cd_types.specs.declared.entry.Entry.{Entry}
use Rattle.cd_types.specs.declared.entry.Entry.TheVariants.{Opt, Seq, Rec, Var, Func, Service}
use Rattle.cd_types.specs.Shape.{Shape, primitive, compound}
use Rattle.cd_sub.specs.Rule.{Rule, same, nat_int, reserved, empty, opt, vec, record_of, variant_of, func, service, HasField, HasCase}
use Rattle.cd_codec.specs.Content.{Plain, null, nat}
use Rattle.cd_codec.specs.Content.{func as func_value, service as service_value}
use Rattle.cd_codec.specs.Plain.{HasShape}
use Rattle.cd_coerce.specs.Read.{to_reserved, to_opt, to_own, way, has_shape}
use Rattle.cd_coerce.proofs.ShapeLemmas.{shape_had}
use Rattle.cd_coerce.proofs.Typed.{same_seq, same_rec, same_var}

clash : (s : Shape) (p : Primitive) (e : Entry) → s ≡ primitive p → s ≡ compound e → ⊥
clash s p e f g = let k : primitive p ≡ compound e = sym f ∙ g in cc

not_reserved : (s : Shape) → way s ≡ to_own → s ≡ primitive Reserved → ⊥
not_reserved s own e = let k : to_own ≡ to_reserved = sym own ∙ ap way e in cc

not_opt : (s : Shape) (w : TyRef) → way s ≡ to_own → s ≡ compound (Opt w) → ⊥
not_opt s w own e = let k : to_own ≡ to_opt w = sym own ∙ ap way e in cc

-- an entry of one kind is none of another
other : (s : Shape) (d e : Entry) → s ≡ compound d → s ≡ compound e → compound d ≡ compound e
other s d e f g = sym f ∙ g

module _ (B Back : TyRef → TyRef → Type 0) (lower upper : List Entry) (s t : Shape) (own : way t ≡ to_own) where
  pub rule_opt : (x : TyRef) → s ≡ compound (Opt x) → Rule B Back lower upper s t → ⊥
  rule_opt x is (same p e f) = clash s p (Opt x) e is
  rule_opt x is (nat_int e f) = clash s Nat (Opt x) e is
  rule_opt x is (reserved f) = not_reserved t own f
  rule_opt x is (empty e) = clash s Empty (Opt x) e is
  rule_opt x is (opt w f) = not_opt t w own f
  rule_opt x is (vec a b e f below) = let k = other s (Opt x) (Seq a) is e in cc
  rule_opt x is (record_of fs gs e f all) = let k = other s (Opt x) (Rec fs) is e in cc
  rule_opt x is (variant_of fs gs e f all) = let k = other s (Opt x) (Var fs) is e in cc
  rule_opt x is (func args args' results results' notes e f back all) = let k = other s (Opt x) (Func args results notes) is e in cc
  rule_opt x is (service ms ns e f all) = let k = other s (Opt x) (Service ms) is e in cc

  pub rule_seq : (x : TyRef) → s ≡ compound (Seq x) → Rule B Back lower upper s t → (y : TyRef) × (t ≡ compound (Seq y)) × B x y
  rule_seq x is (same p e f) = absurd (clash s p (Seq x) e is)
  rule_seq x is (nat_int e f) = absurd (clash s Nat (Seq x) e is)
  rule_seq x is (reserved f) = absurd (not_reserved t own f)
  rule_seq x is (empty e) = absurd (clash s Empty (Seq x) e is)
  rule_seq x is (opt w f) = absurd (not_opt t w own f)
  rule_seq x is (vec a b e f below) = (b, f, subst (λ (a : TyRef). B a b) (same_seq s a x e is) below)
  rule_seq x is (record_of fs gs e f all) = absurd (let k = other s (Seq x) (Rec fs) is e in cc)
  rule_seq x is (variant_of fs gs e f all) = absurd (let k = other s (Seq x) (Var fs) is e in cc)
  rule_seq x is (func args args' results results' notes e f back all) = absurd (let k = other s (Seq x) (Func args results notes) is e in cc)
  rule_seq x is (service ms ns e f all) = absurd (let k = other s (Seq x) (Service ms) is e in cc)

  pub rule_rec : (fields : List (ℕ × TyRef)) → s ≡ compound (Rec fields) → Rule B Back lower upper s t
      → (gs : List (ℕ × TyRef)) × (t ≡ compound (Rec gs)) × AllByRecursion (HasField B upper fields) gs
  rule_rec fields is (same p e f) = absurd (clash s p (Rec fields) e is)
  rule_rec fields is (nat_int e f) = absurd (clash s Nat (Rec fields) e is)
  rule_rec fields is (reserved f) = absurd (not_reserved t own f)
  rule_rec fields is (empty e) = absurd (clash s Empty (Rec fields) e is)
  rule_rec fields is (opt w f) = absurd (not_opt t w own f)
  rule_rec fields is (vec a b e f below) = absurd (let k = other s (Rec fields) (Seq a) is e in cc)
  rule_rec fields is (record_of fs gs e f all) = (gs, f, subst (λ (fs : List (ℕ × TyRef)). AllByRecursion (HasField B upper fs) gs) (same_rec s fs fields e is) all)
  rule_rec fields is (variant_of fs gs e f all) = absurd (let k = other s (Rec fields) (Var fs) is e in cc)
  rule_rec fields is (func args args' results results' notes e f back all) = absurd (let k = other s (Rec fields) (Func args results notes) is e in cc)
  rule_rec fields is (service ms ns e f all) = absurd (let k = other s (Rec fields) (Service ms) is e in cc)

  pub rule_var : (cases : List (ℕ × TyRef)) → s ≡ compound (Var cases) → Rule B Back lower upper s t
      → (gs : List (ℕ × TyRef)) × (t ≡ compound (Var gs)) × AllByRecursion (HasCase B gs) cases
  rule_var cases is (same p e f) = absurd (clash s p (Var cases) e is)
  rule_var cases is (nat_int e f) = absurd (clash s Nat (Var cases) e is)
  rule_var cases is (reserved f) = absurd (not_reserved t own f)
  rule_var cases is (empty e) = absurd (clash s Empty (Var cases) e is)
  rule_var cases is (opt w f) = absurd (not_opt t w own f)
  rule_var cases is (vec a b e f below) = absurd (let k = other s (Var cases) (Seq a) is e in cc)
  rule_var cases is (record_of fs gs e f all) = absurd (let k = other s (Var cases) (Rec fs) is e in cc)
  rule_var cases is (variant_of fs gs e f all) = (gs, f, subst (λ (fs : List (ℕ × TyRef)). AllByRecursion (HasCase B gs) fs) (same_var s fs cases e is) all)
  rule_var cases is (func args args' results results' notes e f back all) = absurd (let k = other s (Var cases) (Func args results notes) is e in cc)
  rule_var cases is (service ms ns e f all) = absurd (let k = other s (Var cases) (Service ms) is e in cc)

-- a type below nat8
pub rule_nat8 : (B Back : TyRef → TyRef → Type 0) (lower upper : List Entry) (s t : Shape) → t ≡ primitive Nat8 → Rule B Back lower upper s t → (s ≡ primitive Nat8) ⊎ (s ≡ primitive Empty)
rule_nat8 B Back lower upper s t is (same p e f) = inl (e ∙ sym f ∙ is)
rule_nat8 B Back lower upper s t is (nat_int e f) = absurd (let k : primitive Int ≡ primitive Nat8 = sym f ∙ is in cc)
rule_nat8 B Back lower upper s t is (reserved f) = absurd (let k : primitive Reserved ≡ primitive Nat8 = sym f ∙ is in cc)
rule_nat8 B Back lower upper s t is (empty e) = inr e
rule_nat8 B Back lower upper s t is (opt w f) = absurd (clash t Nat8 (Opt w) is f)
rule_nat8 B Back lower upper s t is (vec a b e f below) = absurd (clash t Nat8 (Seq b) is f)
rule_nat8 B Back lower upper s t is (record_of fs gs e f all) = absurd (clash t Nat8 (Rec gs) is f)
rule_nat8 B Back lower upper s t is (variant_of fs gs e f all) = absurd (clash t Nat8 (Var gs) is f)
rule_nat8 B Back lower upper s t is (func args args' results results' notes e f back all) = absurd (clash t Nat8 (Func args' results' notes) is f)
rule_nat8 B Back lower upper s t is (service ms ns e f all) = absurd (clash t Nat8 (Service ns) is f)

-- ---- values without parts

at_no_type_empty : (p : Plain) → has_shape p (primitive Empty) ≡ false
at_no_type_empty null = refl
at_no_type_empty _ = refl

pub no_empty : (p : Plain) → HasShape p (primitive Empty) → ⊥
no_empty p h = let k : false ≡ true = sym (at_no_type_empty p) ∙ shape_had p (primitive Empty) h in cc

nat_is : (p : Plain) → HasShape p (primitive Nat) → (n : ℕ) × (p ≡ nat n)
nat_is (nat n) h = (n, refl)
nat_is p h = absurd (let k : false ≡ true = shape_had p (primitive Nat) h in cc)

at_no_type_seq : (p : Plain) (x : TyRef) → has_shape p (compound (Seq x)) ≡ false
at_no_type_seq null x = refl
at_no_type_seq _ x = refl

at_no_type_rec : (p : Plain) (fields : List (ℕ × TyRef)) → has_shape p (compound (Rec fields)) ≡ false
at_no_type_rec null fields = refl
at_no_type_rec _ fields = refl

at_no_type_var : (p : Plain) (cases : List (ℕ × TyRef)) → has_shape p (compound (Var cases)) ≡ false
at_no_type_var null cases = refl
at_no_type_var _ cases = refl

no_shape : (p : Plain) (s : Shape) (e : Entry) → has_shape p (compound e) ≡ false → s ≡ compound e → HasShape p s → ⊥
no_shape p s e at_no_type is h = let k : false ≡ true = sym at_no_type ∙ shape_had p (compound e) (subst (HasShape p) is h) in cc

func_at : (p : Plain) (args results args' results' : List TyRef) (notes : List ℕ) (s t : Shape) → s ≡ compound (Func args results notes) → t ≡ compound (Func args' results' notes) → HasShape p s → HasShape p t
func_at (func_value f m) args results args' results' notes s t e is h = (args', results', notes, is)
func_at p args results args' results' notes s t e is h = absurd (no_shape p s (Func args results notes) refl e h)

service_at : (p : Plain) (ms ns : List (List ℕ × TyRef)) (s t : Shape) → s ≡ compound (Service ms) → t ≡ compound (Service ns) → HasShape p s → HasShape p t
service_at (service_value q) ms ns s t e is h = (ns, is)
service_at p ms ns s t e is h = absurd (no_shape p s (Service ms) refl e h)

-- a value without parts has the other type too, or is a nat where that one is int
pub rule_plain : (B Back : TyRef → TyRef → Type 0) (lower upper : List Entry) (s t : Shape) (p : Plain) → way t ≡ to_own → HasShape p s → Rule B Back lower upper s t
    → HasShape p t ⊎ ((n : ℕ) × (p ≡ nat n) × (t ≡ primitive Int))
rule_plain B Back lower upper s t p own h (same q e f) = inl (subst (HasShape p) (e ∙ sym f) h)
rule_plain B Back lower upper s t p own h (nat_int e f) = let n = nat_is p (subst (HasShape p) e h) in inr (n.0, n.1, f)
rule_plain B Back lower upper s t p own h (reserved f) = absurd (not_reserved t own f)
rule_plain B Back lower upper s t p own h (empty e) = absurd (no_empty p (subst (HasShape p) e h))
rule_plain B Back lower upper s t p own h (opt w f) = absurd (not_opt t w own f)
rule_plain B Back lower upper s t p own h (vec a b e f below) = absurd (no_shape p s (Seq a) (at_no_type_seq p a) e h)
rule_plain B Back lower upper s t p own h (record_of fs gs e f all) = absurd (no_shape p s (Rec fs) (at_no_type_rec p fs) e h)
rule_plain B Back lower upper s t p own h (variant_of fs gs e f all) = absurd (no_shape p s (Var fs) (at_no_type_var p fs) e h)
rule_plain B Back lower upper s t p own h (func args args' results results' notes e f back all) = inl (func_at p args results args' results' notes s t e f h)
rule_plain B Back lower upper s t p own h (service ms ns e f all) = inl (service_at p ms ns s t e f h)
