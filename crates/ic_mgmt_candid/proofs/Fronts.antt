-- Principals that are read, and made values, one after the other.
use Rattle.std.proofs.Common.{◌≡◌, ℕ, ◌+◌, ◌<◌, ◌≤◌, List, [], ◌∷◌, ◌++◌, length, get_or, take, map, Option, Some, None, refl, sym, subst, ap, ◌∙◌}
use Rattle.std.specs.Prelude.{All}
use Rattle.std.proofs.lemmas.List.{append_assoc, map_push, map_more, take_more}
use Rattle.std.proofs.lemmas.List.Elements.{All-push}
use Rattle.cd_codec.specs.declared.value.Value.{Value}
use Rattle.cd_codec.specs.View.{view, views}
use Rattle.ic_mgmt_candid.specs.Replies.{principal_value}
use Rattle.ic_base.specs.Reader.{◌>>=◌}
use Rattle.cd_codec.specs.Content.{Content}
use Rattle.ic_mgmt_candid.specs.Picks.{as_principal, as_principals, with_front}

moved : (front : List (List ℕ)) (id : List ℕ) (o : Option (List (List ℕ))) → with_front (front ++ id ∷ []) o ≡ with_front front (o >>= (λ ids. Some (id ∷ ids)))
moved front id None = refl
moved front id (Some ids) = ap Some (append_assoc front (id ∷ []) ids)

pub one_more : (front : List (List ℕ)) (v : Content) (vs : List Content) (id : List ℕ) → as_principal v ≡ Some id → with_front (front ++ id ∷ []) (as_principals vs) ≡ with_front front (as_principals (v ∷ vs))
one_more front v vs id e = moved front id (as_principals vs) ∙ ap (λ (o : Option (List ℕ)). with_front front (o >>= (λ id. as_principals vs >>= (λ ids. Some (id ∷ ids))))) (sym e)

pub no_more_read : (front : List (List ℕ)) (v : Content) (vs : List Content) → as_principal v ≡ None → with_front front (as_principals (v ∷ vs)) ≡ None
no_more_read front v vs e = ap (λ (o : Option (List ℕ)). with_front front (o >>= (λ id. as_principals vs >>= (λ ids. Some (id ∷ ids))))) e

pub one_more_value : (values : List Value) (v : Value) (ids : List (List ℕ)) (i : ℕ) (d : List ℕ) → i < length ids → views values ≡ map principal_value (take i ids)
    → view v ≡ principal_value (get_or ids i d) → views (values ++ v ∷ []) ≡ map principal_value (take (i + 1) ids)
one_more_value values v ids i d inside e f = map_push view values v ∙ rw e (rw f (sym (map_more principal_value ids i d inside)))

pub one_more_short : (ids : List (List ℕ)) (i : ℕ) (d : List ℕ) → i < length ids → All (λ id. length id ≤ 29) (take i ids) → length (get_or ids i d) ≤ 29
    → All (λ id. length id ≤ 29) (take (i + 1) ids)
one_more_short ids i d inside short few =
    subst (All (λ (id : List ℕ). length id ≤ 29)) (sym (take_more ids i d inside)) (All-push (λ (id : List ℕ). length id ≤ 29) (take i ids) (get_or ids i d) short few)
