-- The expected types that bytes give.
use Rattle.std.proofs.Common.{refl, subst, ◌≡◌, ℕ, ◌<◌, false, List, [], ◌∷◌, ◌++◌, length, take, drop, Option, Some, None, sym, ap, ◌∙◌, arith}
use Rattle.std.proofs.lemmas.List.{append-nil, take-append-drop, length-drop}
use Rattle.cd_types.specs.declared.entry.TyRef.{TyRef}
use Rattle.cd_types.specs.declared.entry.Entry.{Entry}
use Rattle.cd_codec.specs.IsHeader.{IsHeader}
use Rattle.cd_codec.specs.ReadHeader.{header_at}
use Rattle.cd_codec.proofs.HeaderAnswers.{header_is_read}
use Rattle.ic_candid_lines.specs.Decoding.{Types, if_all, types_of}

-- none front of the bytes is a header
abbrev NoHeader : List ℕ → Type 0
NoHeader bytes = (table : List Entry) (types : List TyRef) (front rest : List ℕ) → bytes ≡ front ++ rest → IsHeader false table types front → ⊥

-- a header gives its types
pub types_found : (bytes : List ℕ) (table : List Entry) (types : List TyRef) → IsHeader false table types bytes → types_of bytes ≡ Some (table, types)
unfolding types_of
types_found bytes table types header =
    ap if_all ((header_is_read false table types bytes []).1 (bytes, sym (append-nil bytes), header))

not_all : (types : Types) (rest : List ℕ) → 0 < length rest → if_all (Some (types, rest)) ≡ None
not_all types [] h = absurd (omega (arith, h))
not_all types (byte ∷ rest) h = refl

-- a header with something after it gives none
pub types_of-longer : (bytes : List ℕ) (table : List Entry) (types : List TyRef) (n : ℕ) → n < length bytes → IsHeader false table types (take n bytes) → types_of bytes ≡ None
unfolding types_of
types_of-longer bytes table types n more header =
    ap if_all ((header_is_read false table types bytes (drop n bytes)).1 (take n bytes, sym (take-append-drop n bytes), header))
    ∙ not_all (table, types) (drop n bytes) (omega (arith, length-drop n bytes, more))

none_found : (bytes : List ℕ) → NoHeader bytes → (read : Option (Types × List ℕ)) → header_at false bytes ≡ read → if_all read ≡ None
none_found bytes nothing None e = refl
none_found bytes nothing (Some (types, rest)) e =
    let found = (header_is_read false types.0 types.1 bytes rest).0 e in
    absurd (nothing types.0 types.1 found.0 rest found.1 found.2)

-- bytes without a header give none
pub types_of-none : (bytes : List ℕ) → NoHeader bytes → types_of bytes ≡ None
unfolding types_of
types_of-none bytes nothing = none_found bytes nothing (header_at false bytes) refl

-- bytes that are no header as a whole give none
pub types_of-no_header : (bytes : List ℕ) → ((table : List Entry) (types : List TyRef) → IsHeader false table types bytes → ⊥) → types_of bytes ≡ None
unfolding types_of
types_of-no_header bytes no_header = not_found bytes no_header (header_at false bytes) refl
  where
    not_found : (bytes : List ℕ) → ((table : List Entry) (types : List TyRef) → IsHeader false table types bytes → ⊥) → (read : Option (Types × List ℕ)) → header_at false bytes ≡ read → if_all read ≡ None
    not_found bytes no_header None e = refl
    not_found bytes no_header (Some (types, byte ∷ rest)) e = refl
    not_found bytes no_header (Some (types, [])) e =
        let found = (header_is_read false types.0 types.1 bytes []).0 e in
        absurd (no_header types.0 types.1 (subst (IsHeader false types.0 types.1) (sym (found.1 ∙ append-nil found.0)) found.2))
