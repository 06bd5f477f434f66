-- Where words are in a module's bytes, and what functions are named there (WebAssembly Core 1.0, 5.5.2, 5.5.13
-- and 7.4). Both are read leniently: the standard lets no name section make a module faulty.
use Rattle.std.specs.Prelude.{ℕ, suc, zero, false, ◌+◌, ◌-◌, ◌^◌, List, [], ◌∷◌, length, Option, Some, None, nat_eq, nat_lt, not, ◌&&◌, cond}
use Rattle.std.specs.Option.{option_or}
use Rattle.std.specs.Cmp.Lexicographic.{pointwise}
use Rattle.ic_base.specs.Reader.{Reader, ◌>>=◌}
use Rattle.wm_tree.specs.declared.listing.Listing.{Listing}
use Rattle.wm_decode.specs.Mod.{Section}
use Rattle.wm_decode.specs.Readers.{u32_at, pair_at, list_at, vec_bytes_at, name_at, run_at, word_at, section_at, magic_at}

-- ---- what is kept of a module's bytes

-- what the first of at most n items gives that gives anything
unfoldable pub first_at : {A B : Type 0} → Reader A → (A → Option B) → ℕ → List ℕ → Option B
first_at read gives zero bytes = None
first_at read gives (suc n) bytes = read bytes >>= λ x. option_or (gives x.0) (first_at read gives n x.1)

abbrev pub content_if : ℕ → Section → Option (List ℕ)
content_if id s = cond (nat_eq s.id id) (Some s.content) None

-- the content of the first subsection of that id; a subsection is written as a section is
abbrev pub subsection_at : ℕ → List ℕ → Option (List ℕ)
subsection_at id bytes = first_at section_at (content_if id) (length bytes) bytes

-- the bytes of `name`
abbrev pub name_section : List ℕ
name_section = 0x6E ∷ 0x61 ∷ 0x6D ∷ 0x65 ∷ []

-- the names of functions, in the content of a custom section
abbrev pub function_names : List ℕ → Option (List ℕ)
function_names content = name_at content >>= λ n. cond (pointwise nat_eq n.0 name_section) (subsection_at 1 n.1) None

abbrev pub named : Option (List ℕ) → Listing → Listing
named None l = l
named (Some names) l = record l { names = names }

-- with what is kept of a section, whose content begins at that place
abbrev pub with_section : ℕ → Section → Listing → Listing
with_section at s l =
    cond (nat_eq s.id 0) (named (function_names s.content) l)
    (cond (nat_eq s.id 10 && nat_lt at (2 ^ 32)) (record l { at = at; code = s.content }) l)

-- with what is kept of a section that was read, and of those after it
abbrev pub listed_with : (List ℕ → Listing → Listing) → ℕ → Option (Section × List ℕ) → Listing → Listing
listed_with more all None l = l
listed_with more all (Some s) l = more s.1 (with_section (all - length s.1 - length s.0.content) s.0 l)

-- with what is kept of at most n sections, which are the rest of a module of `all` bytes
unfoldable pub listed : (n all : ℕ) → List ℕ → Listing → Listing
listed zero all rest l = l
listed (suc n) all rest l = listed_with (listed n all) all (section_at rest) l

abbrev pub nothing_listed : Listing
nothing_listed = record { at = 0; code = []; names = [] }

abbrev pub listed_after : ℕ → Option (List ℕ) → Listing
listed_after all None = nothing_listed
listed_after all (Some rest) = listed all all rest nothing_listed

-- what is kept of a module's bytes
abbrev pub listing_in : List ℕ → Listing
listing_in bytes = listed_after (length bytes) (magic_at bytes)

-- ---- the offset of a word

-- what is after n items
unfoldable pub skipped : {A : Type 0} → Reader A → ℕ → List ℕ → Option (List ℕ)
skipped read zero bytes = Some bytes
skipped read (suc n) bytes = read bytes >>= λ x. skipped read n x.1

-- the code of that function, and what is after it
abbrev pub function_at : ℕ → List ℕ → Option (List ℕ)
function_at f code = u32_at code >>= λ count. skipped vec_bytes_at f count.1

-- what is after a code's size and its locals
abbrev pub body_at : List ℕ → Option (List ℕ)
body_at code = u32_at code >>= λ size. list_at (run_at false) size.1 >>= λ locals. Some locals.1

abbrev pub words_after : ℕ → List ℕ → Option (List ℕ)
words_after = skipped (word_at false)

-- the offset, in the module's bytes, of a word of a function that the module defines
abbrev pub offset_in : (function word : ℕ) → Listing → Option ℕ
offset_in f w l =
    function_at f l.code >>= body_at >>= words_after w >>= λ rest. Some (l.at + (length l.code - length rest))

-- ---- the name of a function

-- the index of a function, and its name
unfoldable pub naming_at : Reader (ℕ × List ℕ)
naming_at = pair_at u32_at name_at

abbrev pub name_if : ℕ → ℕ × List ℕ → Option (List ℕ)
name_if f n = cond (nat_eq n.0 f && not (nat_eq (length n.1) 0)) (Some n.1) None

-- the first name of that function which is not empty
abbrev pub name_at_index : ℕ → List ℕ → Option (List ℕ)
name_at_index f names = u32_at names >>= λ count. first_at naming_at (name_if f) count.0 count.1
