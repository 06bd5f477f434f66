-- What is printed piece by piece.
use Rattle.std.proofs.Common.{◌≡◌, ℕ, suc, ◌+◌, ◌≤◌, ◌<◌, Bool, false, List, [], ◌∷◌, ◌++◌, length, take, map, codes, Some, refl, sym, ap, ◌∙◌, append_assoc, arith, get_or}
use Rattle.std.specs.Prelude.{◌==◌, Box, Option}
use Rattle.std.specs.List.{flat_map}
use Rattle.std.specs.Global.{Vec, Global}
use Rattle.std.proofs.lemmas.List.{append-nil, length-map, map_push, take_more, length-take}
use Rattle.std.proofs.lemmas.List.{take_all}
use Rattle.cd_types.specs.declared.entry.TyRef.{TyRef}
use Rattle.cd_types.specs.declared.entry.Entry.{Entry}
use Rattle.cd_types.specs.Shape.{shape}
use Rattle.cd_names.specs.Names.{IdNames}
use Rattle.cd_codec.specs.declared.value.Value.{Value}
use Rattle.cd_codec.specs.declared.value.Value.TheVariants as values
use Rattle.cd_codec.specs.declared.value.Values.{roll-Values}
use Rattle.cd_codec.specs.declared.value.FieldValues.{roll-FieldValues}
use Rattle.cd_codec.specs.Content.{Content, contents_of, parts_of}
use Rattle.cd_codec.specs.View.{view, views, views_of_fields}
use Rattle.cd_codec.proofs.Views.{view-Some, view-Var, view-Seq, view-Rec}
use Rattle.cd_plain.specs.Types.{inner_of, item_of, fields_of, nth_field, nth_type}
use Rattle.cd_plain.specs.Pieces.{before, pieces, end_of_braces}
use Rattle.cd_plain.specs.Printed.{joined, braced, labelled, label_text, case_text, value_text, item_texts, field_texts, argument_texts}

-- one piece is appended, and then another
two_pieces : (old middle new first second whole : List ℕ) → middle ≡ old ++ first → new ≡ middle ++ second → first ++ second ≡ whole → new ≡ old ++ whole
two_pieces old middle new first second whole e f same = f ∙ ap (λ (m : List ℕ). m ++ second) e ∙ append_assoc old first second ∙ ap (λ (bytes : List ℕ). old ++ bytes) same

-- ---- parts one after the other

pieces_push : (first other : List ℕ) (place : ℕ) (parts : List (List ℕ)) (part : List ℕ) → pieces first other place (parts ++ part ∷ []) ≡ pieces first other place parts ++ (before first other (place + length parts) ++ part)
pieces_push first other place [] part =
    let n : place + 0 ≡ place = omega arith in
    ap (λ (xs : List ℕ). before first other place ++ xs) (append-nil part) ∙ ap (λ k. before first other k ++ part) (sym n)
pieces_push first other place (p ∷ parts) part =
    let n : suc place + length parts ≡ place + suc (length parts) = omega arith in
    let i = pieces_push first other (suc place) parts part in
    let front = before first other place in
    ap (λ (xs : List ℕ). front ++ (p ++ xs)) (i ∙ ap (λ k. pieces first other (suc place) parts ++ (before first other k ++ part)) n)
    ∙ ap (λ (xs : List ℕ). front ++ xs) (sym (append_assoc p (pieces first other (suc place) parts) (before first other (place + suc (length parts)) ++ part)))
    ∙ sym (append_assoc front (p ++ pieces first other (suc place) parts) (before first other (place + suc (length parts)) ++ part))

pub one_more : (first other : List ℕ) (parts more : List (List ℕ)) (part : List ℕ) (place : ℕ) (old front middle new : List ℕ) → length parts ≡ place → more ≡ parts ++ part ∷ [] → front ≡ old ++ pieces first other 0 parts → middle ≡ front ++ before first other place → new ≡ middle ++ part
    → new ≡ old ++ pieces first other 0 more
one_more first other parts more part place old front middle new many e f g h =
    let n : 0 + length parts ≡ place = omega (arith, many) in
    let both : new ≡ front ++ (before first other place ++ part) = two_pieces front middle new (before first other place) part (before first other place ++ part) g h refl in
    two_pieces old front new (pieces first other 0 parts) (before first other place ++ part) (pieces first other 0 more) f both
    (sym (ap (pieces first other 0) e ∙ pieces_push first other 0 parts part ∙ ap (λ k. pieces first other 0 parts ++ (before first other k ++ part)) n))

later_pieces : (first other : List ℕ) (place : ℕ) (parts : List (List ℕ)) → pieces first other (suc place) parts ≡ flat_map (λ next. other ++ next) parts
later_pieces first other place [] = refl
later_pieces first other place (p ∷ parts) = ap (λ (xs : List ℕ). other ++ (p ++ xs)) (later_pieces first other (suc place) parts) ∙ sym (append_assoc other p (flat_map (λ next. other ++ next) parts))

pub joined_is : (separator : List ℕ) (parts : List (List ℕ)) → pieces [] separator 0 parts ≡ joined separator parts
joined_is separator [] = refl
joined_is separator (p ∷ parts) = ap (λ (xs : List ℕ). p ++ xs) (later_pieces [] separator 0 parts)

braced_is : (parts : List (List ℕ)) → pieces (codes "{ ") (codes "; ") 0 parts ++ end_of_braces (length parts == 0) ≡ braced parts
braced_is [] = refl
braced_is (p ∷ parts) =
    let some : (suc (length parts) == 0) ≡ false = grind arith in
    rw some (ap (λ (xs : List ℕ). codes "{ " ++ xs) (ap (λ (xs : List ℕ). (p ++ xs) ++ codes " }") (later_pieces (codes "{ ") (codes "; ") 0 parts)))

pub closed : (parts : List (List ℕ)) (count : ℕ) (old front new : List ℕ) → length parts ≡ count → front ≡ old ++ pieces (codes "{ ") (codes "; ") 0 parts → new ≡ front ++ end_of_braces (count == 0) → new ≡ old ++ braced parts
closed parts count old front new many f g = two_pieces old front new (pieces (codes "{ ") (codes "; ") 0 parts) (end_of_braces (count == 0)) (braced parts) f g (ap (λ k. pieces (codes "{ ") (codes "; ") 0 parts ++ end_of_braces (k == 0)) (sym many) ∙ braced_is parts)

-- ---- the texts of parts

pub items_are : (names : Option IdNames) (table : List Entry) (item : TyRef) (vs : List Content) → item_texts names table item (contents_of vs) ≡ map (value_text names table item) vs
unfolding value_text
items_are names table item [] = refl
items_are names table item (v ∷ vs) = ap (λ (ts : List (List ℕ)). value_text names table item v ∷ ts) (items_are names table item vs)

pub fields_push : (names : Option IdNames) (table : List Entry) (fields : List (ℕ × TyRef)) (place : ℕ) (ps : List (ℕ × Content)) (p : ℕ × Content)
    → field_texts names table fields place (parts_of (ps ++ p ∷ [])) ≡ field_texts names table fields place (parts_of ps) ++ labelled (label_text names p.0) (value_text names table (nth_field fields (place + length ps)).1 p.1) ∷ []
unfolding value_text
fields_push names table fields place [] p = let n : place + 0 ≡ place = omega arith in rw n refl
fields_push names table fields place (q ∷ ps) p =
    let n : suc place + length ps ≡ place + suc (length ps) = omega arith in
    ap (λ (ts : List (List ℕ)). labelled (label_text names q.0) (value_text names table (nth_field fields place).1 q.1) ∷ ts)
    (fields_push names table fields (suc place) ps p ∙ ap (λ k. field_texts names table fields (suc place) (parts_of ps) ++ labelled (label_text names p.0) (value_text names table (nth_field fields k).1 p.1) ∷ []) n)

pub fields_count : (names : Option IdNames) (table : List Entry) (fields : List (ℕ × TyRef)) (place : ℕ) (ps : List (ℕ × Content)) → length (field_texts names table fields place (parts_of ps)) ≡ length ps
unfolding value_text
fields_count names table fields place [] = refl
fields_count names table fields place (p ∷ ps) = ap suc (fields_count names table fields (suc place) ps)

pub arguments_push : (names : Option IdNames) (table : List Entry) (types : List TyRef) (place : ℕ) (vs : List Content) (v : Content)
    → argument_texts names table types place (vs ++ v ∷ []) ≡ argument_texts names table types place vs ++ value_text names table (nth_type types (place + length vs)) v ∷ []
arguments_push names table types place [] v = let n : place + 0 ≡ place = omega arith in rw n refl
arguments_push names table types place (u ∷ vs) v =
    let n : suc place + length vs ≡ place + suc (length vs) = omega arith in
    ap (λ (ts : List (List ℕ)). value_text names table (nth_type types place) u ∷ ts)
    (arguments_push names table types (suc place) vs v ∙ ap (λ k. argument_texts names table types (suc place) vs ++ value_text names table (nth_type types k) v ∷ []) n)

pub arguments_count : (names : Option IdNames) (table : List Entry) (types : List TyRef) (place : ℕ) (vs : List Content) → length (argument_texts names table types place vs) ≡ length vs
arguments_count names table types place [] = refl
arguments_count names table types place (v ∷ vs) = ap suc (arguments_count names table types (suc place) vs)

-- one more of a list
pub seen_more : {A B : Type 0} (f : A → B) (items : List A) (i : ℕ) (d : A) → i < length items → map f (take (i + 1) items) ≡ map f (take i items) ++ f (get_or items i d) ∷ []
seen_more f items i d below = ap (map f) (take_more items i d below) ∙ map_push f (take i items) (get_or items i d)

pub seen_count : {A B : Type 0} (f : A → B) (items : List A) (i : ℕ) → i < length items → length (map f (take i items)) ≡ i
seen_count f items i below = length-map (take i items) f ∙ length-take i items ∙ omega (arith, below)

-- ---- the loops of the code

no_more : {A : Type 0} (items : List A) (i : ℕ) → length items ≤ i → take i items ≡ items
no_more items i past = take_all i items past

pub argument_seen : (names : Option IdNames) (table : List Entry) (types : List TyRef) (items : List Value) (place : ℕ) (x : Value) (at : TyRef) (b old front middle new : List ℕ) → place < length items → x ≡ get_or items place x → at ≡ nth_type types place
    → b ≡ before [] (codes ", ") place → front ≡ old ++ pieces [] (codes ", ") 0 (argument_texts names table types 0 (views (take place items))) → middle ≡ front ++ b → new ≡ middle ++ value_text names table at (view x)
    → new ≡ old ++ pieces [] (codes ", ") 0 (argument_texts names table types 0 (views (take (place + 1) items)))
argument_seen names table types items place x at b old front middle new below is kind sep f g h =
    let count = seen_count view items place below in
    let n : 0 + length (views (take place items)) ≡ place = omega (arith, count) in
    let more : argument_texts names table types 0 (views (take (place + 1) items)) ≡ argument_texts names table types 0 (views (take place items)) ++ value_text names table at (view x) ∷ [] =
    ap (argument_texts names table types 0) (seen_more view items place x below ∙ ap (λ y. views (take place items) ++ view y ∷ []) (sym is))
    ∙ arguments_push names table types 0 (views (take place items)) (view x) ∙ ap (λ k. argument_texts names table types 0 (views (take place items)) ++ value_text names table (nth_type types k) (view x) ∷ []) n
    ∙ ap (λ t. argument_texts names table types 0 (views (take place items)) ++ value_text names table t (view x) ∷ []) (sym kind) in
    one_more [] (codes ", ") (argument_texts names table types 0 (views (take place items))) (argument_texts names table types 0 (views (take (place + 1) items))) (value_text names table at (view x)) place old front middle new
    (arguments_count names table types 0 (views (take place items)) ∙ count) more f (g ∙ ap (λ (xs : List ℕ). front ++ xs) sep) h

pub arguments_seen : (names : Option IdNames) (table : List Entry) (types : List TyRef) (items : List Value) (place : ℕ) (old new : List ℕ) → length items ≤ place → new ≡ old ++ pieces [] (codes ", ") 0 (argument_texts names table types 0 (views (take place items)))
    → new ≡ old ++ joined (codes ", ") (argument_texts names table types 0 (views items))
arguments_seen names table types items place old new past f =
    f ∙ ap (λ xs. old ++ pieces [] (codes ", ") 0 (argument_texts names table types 0 (views xs))) (no_more items place past) ∙ ap (λ (xs : List ℕ). old ++ xs) (joined_is (codes ", ") (argument_texts names table types 0 (views items)))

pub item_seen : (text : Content → List ℕ) (items : List Value) (place : ℕ) (x : Value) (b old front middle new : List ℕ) → place < length items → x ≡ get_or items place x → b ≡ before (codes "{ ") (codes "; ") place
    → front ≡ old ++ pieces (codes "{ ") (codes "; ") 0 (map text (views (take place items))) → middle ≡ front ++ b → new ≡ middle ++ text (view x) → new ≡ old ++ pieces (codes "{ ") (codes "; ") 0 (map text (views (take (place + 1) items)))
item_seen text items place x b old front middle new below is sep f g h =
    let count = seen_count view items place below in
    let more : map text (views (take (place + 1) items)) ≡ map text (views (take place items)) ++ text (view x) ∷ [] =
    ap (map text) (seen_more view items place x below ∙ ap (λ y. views (take place items) ++ view y ∷ []) (sym is)) ∙ map_push text (views (take place items)) (view x) in
    one_more (codes "{ ") (codes "; ") (map text (views (take place items))) (map text (views (take (place + 1) items))) (text (view x)) place old front middle new
    (length-map (views (take place items)) text ∙ count) more f (g ∙ ap (λ (xs : List ℕ). front ++ xs) sep) h

pub items_seen : (text : Content → List ℕ) (items : List Value) (place : ℕ) (end old front new : List ℕ) (empty : Bool) → length items ≤ place → empty ≡ (length items == 0) → end ≡ end_of_braces empty
    → front ≡ old ++ pieces (codes "{ ") (codes "; ") 0 (map text (views (take place items))) → new ≡ front ++ end → new ≡ old ++ braced (map text (views items))
items_seen text items place end old front new empty past none closes f g =
    closed (map text (views items)) (length items) old front new (length-map (views items) text ∙ length-map items view)
    (f ∙ ap (λ xs. old ++ pieces (codes "{ ") (codes "; ") 0 (map text (views xs))) (no_more items place past)) (g ∙ ap (λ (xs : List ℕ). front ++ xs) (closes ∙ ap end_of_braces none))

field_view : ℕ × Value → ℕ × Content
field_view f = (f.0, view f.1)

pub field_seen : (names : Option IdNames) (table : List Entry) (types : List (ℕ × TyRef)) (items : List (ℕ × Value)) (place : ℕ) (x : ℕ × Value) (at : ℕ × TyRef) (b old front middle new : List ℕ) → place < length items → x ≡ get_or items place x → at ≡ nth_field types place
    → b ≡ before (codes "{ ") (codes "; ") place → front ≡ old ++ pieces (codes "{ ") (codes "; ") 0 (field_texts names table types 0 (parts_of (views_of_fields (take place items)))) → middle ≡ front ++ b
    → new ≡ middle ++ labelled (label_text names x.0) (value_text names table at.1 (view x.1)) → new ≡ old ++ pieces (codes "{ ") (codes "; ") 0 (field_texts names table types 0 (parts_of (views_of_fields (take (place + 1) items))))
unfolding field_view
field_seen names table types items place x at b old front middle new below is kind sep f g h =
    let count : length (views_of_fields (take place items)) ≡ place = seen_count field_view items place below in
    let n : 0 + length (views_of_fields (take place items)) ≡ place = omega (arith, count) in
    let seen : views_of_fields (take (place + 1) items) ≡ views_of_fields (take place items) ++ (x.0, view x.1) ∷ [] =
    seen_more field_view items place x below ∙ ap (λ y. views_of_fields (take place items) ++ field_view y ∷ []) (sym is) in
    let more : field_texts names table types 0 (parts_of (views_of_fields (take (place + 1) items))) ≡ field_texts names table types 0 (parts_of (views_of_fields (take place items))) ++ labelled (label_text names x.0) (value_text names table at.1 (view x.1)) ∷ [] =
    ap (λ ps. field_texts names table types 0 (parts_of ps)) seen
    ∙ fields_push names table types 0 (views_of_fields (take place items)) (x.0, view x.1) ∙ ap (λ k. field_texts names table types 0 (parts_of (views_of_fields (take place items))) ++ labelled (label_text names x.0) (value_text names table (nth_field types k).1 (view x.1)) ∷ []) n
    ∙ ap (λ (t : ℕ × TyRef). field_texts names table types 0 (parts_of (views_of_fields (take place items))) ++ labelled (label_text names x.0) (value_text names table t.1 (view x.1)) ∷ []) (sym kind) in
    one_more (codes "{ ") (codes "; ") (field_texts names table types 0 (parts_of (views_of_fields (take place items)))) (field_texts names table types 0 (parts_of (views_of_fields (take (place + 1) items)))) (labelled (label_text names x.0) (value_text names table at.1 (view x.1))) place old front middle new
    (fields_count names table types 0 (views_of_fields (take place items)) ∙ count) more f (g ∙ ap (λ (xs : List ℕ). front ++ xs) sep) h

pub fields_seen : (names : Option IdNames) (table : List Entry) (types : List (ℕ × TyRef)) (items : List (ℕ × Value)) (place : ℕ) (end old front new : List ℕ) (empty : Bool) → length items ≤ place → empty ≡ (length items == 0) → end ≡ end_of_braces empty
    → front ≡ old ++ pieces (codes "{ ") (codes "; ") 0 (field_texts names table types 0 (parts_of (views_of_fields (take place items)))) → new ≡ front ++ end → new ≡ old ++ braced (field_texts names table types 0 (parts_of (views_of_fields items)))
fields_seen names table types items place end old front new empty past none closes f g =
    closed (field_texts names table types 0 (parts_of (views_of_fields items))) (length items) old front new (fields_count names table types 0 (views_of_fields items) ∙ length-map items (λ (p : ℕ × Value). (p.0, view p.1)))
    (f ∙ ap (λ xs. old ++ pieces (codes "{ ") (codes "; ") 0 (field_texts names table types 0 (parts_of (views_of_fields xs)))) (no_more items place past)) (g ∙ ap (λ (xs : List ℕ). front ++ xs) (closes ∙ ap end_of_braces none))

-- ---- the kinds of values

pub list_text : (names : Option IdNames) (table : List Entry) (type : TyRef) (v : Value) (inner : Vec Value) (parts : List Value) (at : TyRef) → v ≡ values.Seq (roll-Values record { items = inner }) → parts ≡ inner.items → at ≡ item_of (shape table type)
    → value_text names table type (view v) ≡ codes "vec " ++ braced (map (value_text names table at) (views parts))
unfolding value_text
list_text names table type v inner parts at is same kind = rw (is, same, kind, view-Seq inner) (ap (λ ts. codes "vec " ++ braced ts) (items_are names table (item_of (shape table type)) (views inner.items)))

pub variant_text : (names : Option IdNames) (table : List Entry) (type : TyRef) (v part : Value) (i : ℕ) (inner : Box Value Global) (cases : List (ℕ × TyRef)) (case : ℕ × TyRef) → v ≡ values.Var i inner → part ≡ inner.value → cases ≡ fields_of (shape table type) → case ≡ nth_field cases i
    → value_text names table type (view v) ≡ codes "variant { " ++ (case_text names case.0 (view part) (value_text names table case.1 (view part)) ++ codes " }")
unfolding value_text
variant_text names table type v part i inner cases case is same kind at = rw (is, same, at, kind, view-Var i inner) (ap (λ (xs : List ℕ). codes "variant { " ++ (xs ++ codes " }")) (append-nil _))

pub no_field : (names : Option IdNames) (table : List Entry) (types : List (ℕ × TyRef)) (old : List ℕ) → old ≡ old ++ pieces (codes "{ ") (codes "; ") 0 (field_texts names table types 0 (parts_of []))
unfolding value_text
no_field names table types old = sym (append-nil old)
