-- What a turn of a loop does to what is still to be read.
use Rattle.std.proofs.Common.{◌≡◌, ℕ, suc, ◌+◌, ◌-◌, ◌<◌, ◌≤◌, Bool, true, false, List, [], ◌∷◌, ◌++◌, length, Option, Some, None, nat_eq, refl, sym, ap, ◌∙◌, append_assoc, arith, eq-eqb}
use Rattle.std.proofs.lemmas.Bool.{eqb-true, ne_eqb, lt-ltb, le-ltb}
use Rattle.std.proofs.lemmas.List.{append-nil}
use Rattle.ic_base.specs.declared.read_error.ReadError.{ReadError}
use Rattle.ic_base.specs.declared.read_error.ReadError.TheVariants.{NoMemory, Refused}
use Rattle.ic_base.specs.Reader.{◌>>=◌}
use Rattle.ic_base.specs.Gives.{Fails}
use Rattle.ic_base.proofs.Loops.{with_front}
use Rattle.wm_tree.specs.declared.instr.Instr.{Instr}
use Rattle.wm_tree.specs.Row.{row_of}
use Rattle.wm_decode.specs.Mod.{Section, place_of}
use Rattle.wm_decode.specs.Readers.{name_at, section_at, placed, sections_at, word_at, done, on, wrong, follow, onward, words_at}

-- ---- sections

-- the sections that were read before, and those that are still read
abbrev pub and_sections : List Section → Option (List Section) → Option (List Section)
and_sections front read = read >>= λ sections. Some (front ++ sections)

pub no_sections_before : (read : Option (List Section)) → and_sections [] read ≡ read
no_sections_before (Some sections) = refl
no_sections_before None = refl

opened : (count i last : ℕ) (rest : List ℕ) → i < count → nat_eq (length rest) 0 ≡ false
    → sections_at (count - i) last rest ≡ (section_at rest >>= λ s. placed (sections_at (count - (i + 1))) last s.0 s.1)
unfolding sections_at
opened count i last [] below some = absurd cc
opened count i last (b ∷ bytes) below some = let left : count - i ≡ suc (count - (i + 1)) = omega arith in rw left refl

-- no byte is left
pub no_more : (front : List Section) (n last : ℕ) (rest : List ℕ) (total : Option (List Section)) → nat_eq (length rest) 0 ≡ true
    → and_sections front (sections_at n last rest) ≡ total → total ≡ Some front
unfolding sections_at
no_more front n last [] total none so_far = sym so_far ∙ ap (λ (sections : List Section). Some sections) (append-nil front)
no_more front n last (b ∷ bytes) total none so_far = absurd (omega (arith, eqb-true (length (b ∷ bytes)) 0 none))

-- a byte is left where no section can be
pub too_many : (front : List Section) (count i last : ℕ) (rest : List ℕ) (total : Option (List Section)) → count ≤ i → nat_eq (length rest) 0 ≡ false
    → and_sections front (sections_at (count - i) last rest) ≡ total → total ≡ None
unfolding sections_at
too_many front count i last [] total past some so_far = absurd cc
too_many front count i last (b ∷ bytes) total past some so_far =
    let left : count - i ≡ 0 = omega arith in
    let step : and_sections front (sections_at (count - i) last (b ∷ bytes)) ≡ None = rw left refl in
    sym so_far ∙ step

pub no_section : (e : ReadError) (front : List Section) (count i last : ℕ) (rest : List ℕ) (total : Option (List Section)) → i < count → nat_eq (length rest) 0 ≡ false
    → Fails e (section_at rest) → and_sections front (sections_at (count - i) last rest) ≡ total → Fails e total
no_section NoMemory front count i last rest total below some none so_far = tt
no_section Refused front count i last rest total below some none so_far =
    let step : and_sections front (sections_at (count - i) last rest) ≡ None = rw (opened count i last rest below some, none) refl in
    sym so_far ∙ step

-- what is read after a section
behind : (front : List Section) (count i last : ℕ) (rest : List ℕ) (total : Option (List Section)) (s : Section) (after : List ℕ) → i < count → nat_eq (length rest) 0 ≡ false
    → section_at rest ≡ Some (s, after) → and_sections front (sections_at (count - i) last rest) ≡ total
    → and_sections front (placed (sections_at (count - (i + 1))) last s after) ≡ total
behind front count i last rest total s after below some read so_far =
    let step : sections_at (count - i) last rest ≡ placed (sections_at (count - (i + 1))) last s after = rw (opened count i last rest below some, read) refl in
    ap (and_sections front) (sym step) ∙ so_far

pub unnamed : (e : ReadError) (front : List Section) (count i last : ℕ) (rest : List ℕ) (total : Option (List Section)) (s : Section) (after : List ℕ) → i < count → nat_eq (length rest) 0 ≡ false
    → section_at rest ≡ Some (s, after) → s.id ≡ 0 → Fails e (name_at s.content) → and_sections front (sections_at (count - i) last rest) ≡ total → Fails e total
unnamed NoMemory front count i last rest total s after below some read custom none so_far = tt
unnamed Refused front count i last rest total s after below some read custom none so_far =
    let step : and_sections front (placed (sections_at (count - (i + 1))) last s after) ≡ None = rw (eq-eqb s.id 0 custom, none) refl in
    sym (behind front count i last rest total s after below some read so_far) ∙ step

pub passed_over : (front : List Section) (count i last : ℕ) (rest : List ℕ) (total : Option (List Section)) (s : Section) (after : List ℕ) (x : List ℕ × List ℕ) → i < count → nat_eq (length rest) 0 ≡ false
    → section_at rest ≡ Some (s, after) → s.id ≡ 0 → name_at s.content ≡ Some x → and_sections front (sections_at (count - i) last rest) ≡ total
    → and_sections front (sections_at (count - (i + 1)) last after) ≡ total
passed_over front count i last rest total s after x below some read custom named so_far =
    let step : placed (sections_at (count - (i + 1))) last s after ≡ sections_at (count - (i + 1)) last after = rw (eq-eqb s.id 0 custom, named) refl in
    ap (and_sections front) (sym step) ∙ behind front count i last rest total s after below some read so_far

regrouped : (front : List Section) (s : Section) (read : Option (List Section)) → and_sections front (read >>= λ sections. Some (s ∷ sections)) ≡ and_sections (front ++ s ∷ []) read
regrouped front s (Some sections) = ap (λ (all : List Section). Some all) (sym (append_assoc front (s ∷ []) sections))
regrouped front s None = refl

pub one_section : (front : List Section) (count i last : ℕ) (rest : List ℕ) (total : Option (List Section)) (s : Section) (after : List ℕ) → i < count → nat_eq (length rest) 0 ≡ false
    → section_at rest ≡ Some (s, after) → (s.id ≡ 0 → ⊥) → last < place_of s.id → and_sections front (sections_at (count - i) last rest) ≡ total
    → and_sections (front ++ s ∷ []) (sections_at (count - (i + 1)) (place_of s.id) after) ≡ total
one_section front count i last rest total s after below some read no_custom above so_far =
    let step : placed (sections_at (count - (i + 1))) last s after ≡ (sections_at (count - (i + 1)) (place_of s.id) after >>= λ sections. Some (s ∷ sections)) =
    rw (ne_eqb s.id 0 no_custom, lt-ltb last (place_of s.id) above) refl in
    sym (regrouped front s (sections_at (count - (i + 1)) (place_of s.id) after)) ∙ ap (and_sections front) (sym step) ∙ behind front count i last rest total s after below some read so_far

pub misplaced : (front : List Section) (count i last : ℕ) (rest : List ℕ) (total : Option (List Section)) (s : Section) (after : List ℕ) → i < count → nat_eq (length rest) 0 ≡ false
    → section_at rest ≡ Some (s, after) → (s.id ≡ 0 → ⊥) → place_of s.id ≤ last → and_sections front (sections_at (count - i) last rest) ≡ total → total ≡ None
misplaced front count i last rest total s after below some read no_custom low so_far =
    let step : and_sections front (placed (sections_at (count - (i + 1))) last s after) ≡ None = rw (ne_eqb s.id 0 no_custom, le-ltb last (place_of s.id) low) refl in
    sym (behind front count i last rest total s after below some read so_far) ∙ step

-- ---- words

pub no_words_before : (read : Option (List Instr × List ℕ)) → with_front [] read ≡ read
no_words_before (Some x) = refl
no_words_before None = refl

next_word : (float : Bool) (count i : ℕ) (blocks : List Bool) (rest : List ℕ) → i < count
    → words_at float (count - i) blocks rest ≡ (word_at float rest >>= λ w. onward (words_at float (count - (i + 1))) w (follow (row_of w.0).class blocks))
unfolding words_at
next_word float count i blocks rest below = let left : count - i ≡ suc (count - (i + 1)) = omega arith in rw left refl

pub no_word : (e : ReadError) (float : Bool) (front : List Instr) (count i : ℕ) (blocks : List Bool) (rest : List ℕ) (total : Option (List Instr × List ℕ)) → i < count
    → Fails e (word_at float rest) → with_front front (words_at float (count - i) blocks rest) ≡ total → Fails e total
no_word NoMemory float front count i blocks rest total below none so_far = tt
no_word Refused float front count i blocks rest total below none so_far =
    let step : with_front front (words_at float (count - i) blocks rest) ≡ None = rw (next_word float count i blocks rest below, none) refl in
    sym so_far ∙ step

pub last_word : (float : Bool) (front : List Instr) (count i : ℕ) (blocks : List Bool) (rest after : List ℕ) (w : Instr) (total : Option (List Instr × List ℕ)) → i < count
    → word_at float rest ≡ Some (w, after) → follow (row_of w).class blocks ≡ done → with_front front (words_at float (count - i) blocks rest) ≡ total → total ≡ Some (front, after)
last_word float front count i blocks rest after w total below read ends so_far =
    let step : with_front front (words_at float (count - i) blocks rest) ≡ Some (front, after) =
    rw (next_word float count i blocks rest below, read, ends) (ap (λ (words : List Instr). Some (words, after)) (append-nil front)) in
    sym so_far ∙ step

pub wrong_word : (float : Bool) (front : List Instr) (count i : ℕ) (blocks : List Bool) (rest after : List ℕ) (w : Instr) (total : Option (List Instr × List ℕ)) → i < count
    → word_at float rest ≡ Some (w, after) → follow (row_of w).class blocks ≡ wrong → with_front front (words_at float (count - i) blocks rest) ≡ total → total ≡ None
wrong_word float front count i blocks rest after w total below read bad so_far =
    let step : with_front front (words_at float (count - i) blocks rest) ≡ None = rw (next_word float count i blocks rest below, read, bad) refl in
    sym so_far ∙ step

words_regrouped : (front : List Instr) (w : Instr) (read : Option (List Instr × List ℕ)) → with_front front (read >>= λ ws. Some (w ∷ ws.0, ws.1)) ≡ with_front (front ++ w ∷ []) read
words_regrouped front w (Some x) = ap (λ (words : List Instr). Some (words, x.1)) (sym (append_assoc front (w ∷ []) x.0))
words_regrouped front w None = refl

pub one_word : (float : Bool) (front : List Instr) (count i : ℕ) (blocks others : List Bool) (rest after : List ℕ) (w : Instr) (total : Option (List Instr × List ℕ)) → i < count
    → word_at float rest ≡ Some (w, after) → follow (row_of w).class blocks ≡ on others → with_front front (words_at float (count - i) blocks rest) ≡ total
    → with_front (front ++ w ∷ []) (words_at float (count - (i + 1)) others after) ≡ total
one_word float front count i blocks others rest after w total below read goes_on so_far =
    let step : words_at float (count - i) blocks rest ≡ (words_at float (count - (i + 1)) others after >>= λ ws. Some (w ∷ ws.0, ws.1)) =
    rw (next_word float count i blocks rest below, read, goes_on) refl in
    sym (words_regrouped front w (words_at float (count - (i + 1)) others after)) ∙ ap (with_front front) (sym step) ∙ so_far

pub no_end : (float : Bool) (front : List Instr) (count i : ℕ) (blocks : List Bool) (rest : List ℕ) (total : Option (List Instr × List ℕ)) → count ≤ i
    → with_front front (words_at float (count - i) blocks rest) ≡ total → total ≡ None
unfolding words_at
no_end float front count i blocks rest total past so_far =
    let left : count - i ≡ 0 = omega arith in
    let step : with_front front (words_at float (count - i) blocks rest) ≡ None = rw left refl in
    sym so_far ∙ step
