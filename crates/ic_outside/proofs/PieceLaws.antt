-- Laws of the pieces of a script.
use Rattle.std.proofs.Common.{◌≡◌, ℕ, ◌==◌, not, cond, Bool, true, false, ◌≢◌, ◌<◌, List, [], ◌∷◌, ◌++◌, length, refl, sym, ap, ◌∙◌, append-nil, arith}
use Rattle.std.proofs.lemmas.List.Elements.{All-head, All-tail}
use Rattle.std.proofs.lemmas.List.Sums.{take_while-cons}
use Rattle.std.proofs.lemmas.Bool.Decides.{nat_tests}
use Rattle.std.specs.List.{concat}
use Rattle.ic_outside.specs.Pieces.{HasNoLf, pieces, onto_first, line_of}

-- another byte than an LF fails the test for it
pub not_lf : (b : ℕ) → b ≢ 10 → (b == 10) ≡ false
not_lf b other = grind (arith, nat_tests)

pub HasNoLf-head : (b : ℕ) (bs : List ℕ) → HasNoLf (b ∷ bs) → (b == 10) ≡ false
HasNoLf-head b bs none = not_lf b (All-head (λ c. c ≢ 10) b bs none)

pub HasNoLf-tail : (b : ℕ) (bs : List ℕ) → HasNoLf (b ∷ bs) → HasNoLf bs
HasNoLf-tail b bs none = All-tail (λ c. c ≢ 10) b bs none

pieces-cons : (b : ℕ) (bs : List ℕ) → (b == 10) ≡ false → pieces (b ∷ bs) ≡ onto_first b (pieces bs)
unfolding pieces
pieces-cons b bs other = ap (λ t. cond t ((b ∷ []) ∷ pieces bs) (onto_first b (pieces bs))) other

-- a line with its LF is the first piece
pub pieces-line : (line rest : List ℕ) → HasNoLf line
    → pieces (line ++ 10 ∷ rest) ≡ (line ++ 10 ∷ []) ∷ pieces rest
unfolding pieces
pieces-line [] rest none = refl
pieces-line (b ∷ bs) rest none =
    pieces-cons b (bs ++ 10 ∷ rest) (HasNoLf-head b bs none)
    ∙ ap (onto_first b) (pieces-line bs rest (HasNoLf-tail b bs none))

-- bytes without an LF are one piece
pub pieces-rest : (line : List ℕ) → HasNoLf line → 0 < length line → pieces line ≡ line ∷ []
unfolding pieces
pieces-rest [] none some = absurd (omega arith)
pieces-rest (b ∷ []) none some = pieces-cons b [] (HasNoLf-head b [] none)
pieces-rest (b ∷ c ∷ bs) none some =
    let inner = HasNoLf-tail b (c ∷ bs) none in
    pieces-cons b (c ∷ bs) (HasNoLf-head b (c ∷ bs) none)
    ∙ ap (onto_first b) (pieces-rest (c ∷ bs) inner (omega arith))

-- bytes without an LF begin the first piece, whatever follows
pub pieces-begun : (line more : List ℕ) → HasNoLf line → 0 < length line
    → (tail : List ℕ) × (rest : List (List ℕ)) × (pieces (line ++ more) ≡ (line ++ tail) ∷ rest)
pieces-begun [] more none some = absurd (omega arith)
pieces-begun (b ∷ []) more none some =
    let first = pieces-cons b more (HasNoLf-head b [] none) in
    let begun : (ps : List (List ℕ)) → pieces (b ∷ more) ≡ onto_first b ps
    → (tail : List ℕ) × (rest : List (List ℕ)) × (pieces (b ∷ more) ≡ (b ∷ tail) ∷ rest) =
    elim [ [] ↦ λ e. ([], [], e) | p ∷ ps ↦ λ e. (p, ps, e) ] in
    begun (pieces more) first
pieces-begun (b ∷ c ∷ bs) more none some =
    let inner = pieces-begun (c ∷ bs) more (HasNoLf-tail b (c ∷ bs) none) (omega arith) in
    (inner.0, inner.1, pieces-cons b (c ∷ bs ++ more) (HasNoLf-head b (c ∷ bs) none) ∙ ap (onto_first b) inner.2)

line_of-cons : (b : ℕ) (bs : List ℕ) → (b == 10) ≡ false → line_of (b ∷ bs) ≡ b ∷ line_of bs
unfolding line_of
line_of-cons b bs other =
    take_while-cons (λ x. not (x == 10)) b bs ∙ ap (λ t. cond (not t) (b ∷ line_of bs) []) other

-- the line of a piece passes over bytes that are no LF
pub line_of-append : (line tail : List ℕ) → HasNoLf line → line_of (line ++ tail) ≡ line ++ line_of tail
line_of-append [] tail none = refl
line_of-append (b ∷ bs) tail none =
    line_of-cons b (bs ++ tail) (HasNoLf-head b bs none)
    ∙ ap (λ l. b ∷ l) (line_of-append bs tail (HasNoLf-tail b bs none))

-- the line of a piece that ends with its LF
pub line_of-line : (line : List ℕ) → HasNoLf line → line_of (line ++ 10 ∷ []) ≡ line
unfolding line_of
line_of-line line none = line_of-append line (10 ∷ []) none ∙ append-nil line

-- the line of a piece that lacks its LF
pub line_of-rest : (line : List ℕ) → HasNoLf line → line_of line ≡ line
unfolding line_of
line_of-rest line none =
    ap line_of (sym (append-nil line)) ∙ line_of-append line [] none ∙ append-nil line

concat-onto_first : (b : ℕ) (ps : List (List ℕ)) → concat (onto_first b ps) ≡ b ∷ concat ps
concat-onto_first b [] = refl
concat-onto_first b (p ∷ ps) = refl

-- the pieces, one after another, are the bytes
pub concat-pieces : (bytes : List ℕ) → concat (pieces bytes) ≡ bytes
unfolding pieces
concat-pieces [] = refl
concat-pieces (b ∷ bs) =
    let T : Bool → Type 0 = λ t. concat (cond t ((b ∷ []) ∷ pieces bs) (onto_first b (pieces bs))) ≡ b ∷ bs in
    let line : T true = ap (λ l. b ∷ l) (concat-pieces bs) in
    let more : T false = concat-onto_first b (pieces bs) ∙ ap (λ l. b ∷ l) (concat-pieces bs) in
    elim (b == 10) as T [ true ↦ line | false ↦ more ]
