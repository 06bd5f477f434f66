-- The definitions at known arguments, by computing.
use Rattle.std.proofs.Common.{◌≡◌, [], ◌∷◌, true, false, refl}
use Rattle.std.specs.Prelude.{codes}
use Rattle.cd_tokens.specs.Token.{run, quoted, mark}
use Rattle.ct_names.specs.Words.{candid_words, is_candid_word}
use Rattle.ct_names.specs.declared.role.Role.TheVariants.{Used, Bound, Other}
use Rattle.ct_names.specs.Roles.{roles_of}
use Rattle.ct_names.specs.Exchange.{Meanings, exchanged, principal_tokens}

-- record { owner = owner }: the first is a label
label : roles_of (run (codes "record") ∷ mark 123 ∷ run (codes "owner") ∷ mark 61 ∷ run (codes "owner") ∷ mark 125 ∷ []) ≡ Other ∷ Other ∷ Other ∷ Other ∷ Used false ∷ Other ∷ []
unfolding is_candid_word candid_words
label = refl

-- variant { ok = ok }: the first is a case
case : roles_of (run (codes "variant") ∷ mark 123 ∷ run (codes "ok") ∷ mark 61 ∷ run (codes "ok") ∷ mark 125 ∷ []) ≡ Other ∷ Other ∷ Other ∷ Other ∷ Used false ∷ Other ∷ []
unfolding is_candid_word candid_words
case = refl

-- variant { ok }
case_alone : roles_of (run (codes "variant") ∷ mark 123 ∷ run (codes "ok") ∷ mark 125 ∷ []) ≡ Other ∷ Other ∷ Other ∷ Other ∷ []
unfolding is_candid_word candid_words
case_alone = refl

-- func ledger.notify: the last is a method
method : roles_of (run (codes "func") ∷ run (codes "ledger") ∷ mark 46 ∷ run (codes "notify") ∷ []) ≡ Other ∷ Used true ∷ Other ∷ Other ∷ []
unfolding is_candid_word candid_words
method = refl

-- (alice : principal): the last is a type
type : roles_of (mark 40 ∷ run (codes "alice") ∷ mark 58 ∷ run (codes "principal") ∷ mark 41 ∷ []) ≡ Other ∷ Used false ∷ Other ∷ Other ∷ Other ∷ []
unfolding is_candid_word candid_words
type = refl

-- opt let n, _
bound : roles_of (run (codes "opt") ∷ run (codes "let") ∷ run (codes "n") ∷ mark 44 ∷ run (codes "_") ∷ []) ≡ Other ∷ Other ∷ Bound ∷ Other ∷ Other ∷ []
unfolding is_candid_word candid_words
bound = refl

-- record { let alice = 5 }: `let` begins a value, and binds
bound_before_equals : roles_of (run (codes "record") ∷ mark 123 ∷ run (codes "let") ∷ run (codes "alice") ∷ mark 61 ∷ run (codes "5") ∷ mark 125 ∷ []) ≡ Other ∷ Other ∷ Other ∷ Bound ∷ Other ∷ Other ∷ Other ∷ []
unfolding is_candid_word candid_words
bound_before_equals = refl

-- (5 owner, blob owner): uses, whatever the types are
where_no_value_goes_on : roles_of (run (codes "5") ∷ run (codes "owner") ∷ mark 44 ∷ run (codes "blob") ∷ run (codes "owner") ∷ []) ≡ Other ∷ Used false ∷ Other ∷ Other ∷ Used false ∷ []
unfolding is_candid_word candid_words
where_no_value_goes_on = refl

everyone : Meanings
everyone name = principal_tokens (codes "aaaaa-aa")

-- alice, service alice
exchanged_names : exchanged everyone (run (codes "alice") ∷ mark 44 ∷ run (codes "service") ∷ run (codes "alice") ∷ [])
    ≡ run (codes "principal") ∷ quoted (codes "aaaaa-aa") ∷ mark 44 ∷ run (codes "service") ∷ quoted (codes "aaaaa-aa") ∷ []
unfolding is_candid_word candid_words everyone
exchanged_names = refl
