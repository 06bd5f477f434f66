-- Where nothing is at fault, a simple command takes the words.
use Rattle.std.proofs.Common.{◌≡◌, ◌∙◌, ◌&&◌, ◌||◌, ◌==◌, ◌+◌, ℕ, Bool, true, false, not, zero, suc, refl, sym, ap, arith, List, [], ◌∷◌, length, drop, min, Option, Some, None, is_some, true≢false, eqb-true, codes, if◌then◌else◌, nat_lt, nat_le}
use Rattle.std.specs.Prelude.{encode_utf8, slice_get}
use Rattle.std.specs.List.{list_all, list_any}
use Rattle.std.specs.Option.{option_map_or}
use Rattle.std.specs.Str.{bytes_eq, chars}
use Rattle.std.proofs.lemmas.Bool.{le-leb, ltb-false}
use Rattle.clap.specs.Matches.{count_text}
use Rattle.clap.specs.Facts.{explicit_source, parser_of_value, unwrap_or_range}
use Rattle.clap.specs.Lexer.{long_of, short_of}
use Rattle.clap.specs.ValueTests.{accepts}
use Rattle.clap.specs.Values.{refused_kind}
use Rattle.clap.specs.Kinds.{Kinds, check_kinds, or_else, range_kinds, value_kinds, values_kinds}
use Rattle.clap.specs.Faults.{action_fault, built_fault, bundle_step_fault, check_fault, defaults_fault, entered_fault, level_fault, fault_of, flag_word_fault, flags_fault, long_fault, option_fault, other_fault, positional_fault, react_fault, set_fault, settle_fault, short_fault, step_fault, turn_fault, use_fault, walk_fault, word_fault}
use Rattle.clap.specs.Takes.{action_passes, bundle_step_passes, default_passes, is_given, is_valid, flag_word_passes, flags_pass, level_passes, long_passes, option_passes, other_passes, positional_passes, react_passes, set_passes, settle_passes, short_passes, step_passes, takes, turn_passes, use_passes, walk_passes, word_passes}
use Rattle.clap.specs.Walk.{Held, Names, Row, Rule, Step, Text, Waiting, Walk, action_of, arg_by_id, arg_by_index, arg_by_long, arg_by_short, attached_value, count_of, finished, has_row, is_pending, most_values, next, nothing_held, reacted, settled, subcommand, subcommand_met, takes_several, takes_values, trailing, value, values_or_missing, walk, walk_from, walked, word_met}
use Rattle.clap.specs.Simple.{App, Shape, argument_words, built, entered, is_simple}
use Rattle.clap.specs.declared.builder.action.ArgAction.{ArgAction}
use Rattle.clap.specs.declared.builder.action.ArgAction.TheVariants as action
use Rattle.clap.specs.declared.builder.value_parser.ValueParser.{ValueParser}
use Rattle.clap.specs.declared.error.kind.ErrorKind.{ErrorKind}
use Rattle.clap.specs.declared.error.kind.ErrorKind.TheVariants.{InvalidValue, WrongNumberOfValues, TooFewValues, TooManyValues, DisplayHelp, InvalidSubcommand, UnknownArgument}
use Rattle.clap.proofs.TakesLemmas.{leaf_takes}

is_none : Kinds → Bool
is_none [] = true
is_none (k ∷ ks) = false

some_kind : (k : ErrorKind) (ks : Kinds) → k ∷ ks ≡ [] → ⊥
unfolding is_none
some_kind k ks e = true≢false (sym (ap is_none e))

or_none : (a b : Kinds) → or_else a b ≡ [] → (a ≡ []) × (b ≡ [])
or_none [] b e = (refl, e)
or_none (k ∷ ks) b e = absurd (some_kind k ks e)

when_none : (b : Bool) (k : ErrorKind) → (if b then k ∷ [] else []) ≡ [] → b ≡ false
when_none true k e = absurd (some_kind k [] e)
when_none false k e = refl

and : (a b : Bool) → a ≡ true → b ≡ true → (a && b) ≡ true
and a b p q = rw (p, q) refl

value_ok : (i : Bool) (p : ValueParser) (t : Text) → value_kinds i p t ≡ [] → accepts i p t ≡ true
value_ok i p t e = go (accepts i p t) e
  where
    go : (b : Bool) → (if b then [] else refused_kind p ∷ []) ≡ [] → b ≡ true
    go true e = refl
    go false e = absurd (some_kind _ _ e)

values_ok : (i : Bool) (p : ValueParser) (ts : List Text) → values_kinds i p ts ≡ [] → list_all (accepts i p) ts ≡ true
values_ok i p [] e = refl
values_ok i p (t ∷ ts) e = let parts = or_none (value_kinds i p t) (values_kinds i p ts) e in and _ _ (value_ok i p t parts.0) (values_ok i p ts parts.1)

set_ok : (again : Bool) (a : Rule) (vs : List Text) (rows : List Row) → set_fault again a vs rows ≡ [] → set_passes again a vs rows ≡ true
set_ok again a vs rows e =
    let parts = or_none _ _ e in
    and _ _ (once (has_row a.id rows) again (when_none (has_row a.id rows && not again) _ parts.0)) (values_ok _ _ vs parts.1)
  where
    once : (x y : Bool) → (x && not y) ≡ false → (not x || y) ≡ true
    once true true e = refl
    once true false e = absurd (true≢false e)
    once false y e = refl

action_ok : (x : ArgAction) (again : Bool) (a : Rule) (vs : List Text) (rows : List Row) → action_fault x again a vs rows ≡ [] → action_passes x again a vs rows ≡ true
action_ok action.Set again a vs rows e = set_ok again a vs rows e
action_ok action.SetTrue again a vs rows e = set_ok again a vs rows e
action_ok action.SetFalse again a vs rows e = set_ok again a vs rows e
action_ok action.Append again a vs rows e = values_ok _ _ vs e
action_ok action.Count again a [] rows e = value_ok a.ignore_case (parser_of_value a.parser) (count_text (min (count_of a.id rows + 1) 255)) e
action_ok action.Count again a (v ∷ vs) rows e = values_ok _ _ (v ∷ vs) e
action_ok action.Help again a vs rows e = absurd (some_kind _ _ e)
action_ok action.HelpShort again a vs rows e = absurd (some_kind _ _ e)
action_ok action.HelpLong again a vs rows e = absurd (some_kind _ _ e)
action_ok action.Version again a vs rows e = absurd (some_kind _ _ e)

range_ok : (least most n : ℕ) → range_kinds least most n ≡ [] → (nat_le least n ≡ true) × (nat_le n most ≡ true)
range_ok least most n e = go (nat_lt 0 least && n == 0) (least == most) refl (least == n) refl (nat_lt n least) refl (nat_lt most n) refl e
  where
    go : (none same : Bool) → (least == most) ≡ same → (here : Bool) → (least == n) ≡ here → (few : Bool) → nat_lt n least ≡ few → (many : Bool) → nat_lt most n ≡ many
        → (if none then InvalidValue ∷ [] else (if same then (if here then [] else WrongNumberOfValues ∷ []) else (if few then TooFewValues ∷ [] else (if many then TooManyValues ∷ [] else [])))) ≡ []
        → (nat_le least n ≡ true) × (nat_le n most ≡ true)
    go true same s here h few f many w e = absurd (some_kind _ _ e)
    go false true s true h few f many w e =
        let a = eqb-true least most s in
        let b = eqb-true least n h in
        (le-leb least n (omega arith), le-leb n most (omega arith))
    go false true s false h few f many w e = absurd (some_kind _ _ e)
    go false false s here h true f many w e = absurd (some_kind _ _ e)
    go false false s here h false f true w e = absurd (some_kind _ _ e)
    go false false s here h false f false w e = (le-leb least n (ltb-false n least f), le-leb n most (ltb-false most n w))

use_ok : (again : Bool) (a : Rule) (vs : List Text) (rows : List Row) → use_fault again a vs rows ≡ [] → use_passes again a vs rows ≡ true
use_ok again a vs rows e =
    let parts = or_none _ _ e in
    let range = range_ok (unwrap_or_range a.range).start_inclusive (most_values a) (length vs) parts.0 in
    and _ _ range.0 (and _ _ range.1 (action_ok (action_of a) again a (values_or_missing a vs) rows parts.1))

settle_ok : (c : List Rule) (again : Bool) (h : Held) → settle_fault c again h ≡ [] → settle_passes c again h ≡ true
settle_ok c again h e = go h.pending e
  where
    one : (vs : List Text) (r : Option Rule) → option_map_or (λ a. use_fault again a vs h.rows) r [] ≡ [] → option_map_or (λ a. use_passes again a vs h.rows) r true ≡ true
    one vs None e = refl
    one vs (Some a) e = use_ok again a vs h.rows e

    go : (p : Option (Text × List Text)) → option_map_or (λ p. option_map_or (λ a. use_fault again a p.1 h.rows) (arg_by_id c p.0) []) p [] ≡ []
        → option_map_or (λ p. option_map_or (λ a. use_passes again a p.1 h.rows) (arg_by_id c p.0) true) p true ≡ true
    go None e = refl
    go (Some p) e = one p.1 (arg_by_id c p.0) e

react_ok : (c : List Rule) (again : Bool) (a : Rule) (vs : List Text) (h : Held) → react_fault c again a vs h ≡ [] → react_passes c again a vs h ≡ true
react_ok c again a vs h e = let parts = or_none (settle_fault c again h) _ e in and _ _ (settle_ok c again h parts.0) (use_ok again a vs (settled c h).rows parts.1)

option_ok : (c : List Rule) (again : Bool) (a : Rule) (v : Option Text) (h : Held) → option_fault c again a v h ≡ [] → option_passes c again a v h ≡ true
option_ok c again a None h e = settle_ok c again h e
option_ok c again a (Some v) h e = react_ok c again a (v ∷ []) h e

long_ok : (c : List Rule) (again : Bool) (r : Option Rule) (v : Option Text) (h : Held) → long_fault c again r v h ≡ [] → long_passes c again r v h ≡ true
long_ok c again None v h e = absurd (some_kind _ _ e)
long_ok c again (Some a) v h e = go (takes_values a) v e
  where
    go : (b : Bool) (v : Option Text) → (if b then option_fault c again a v h else (if is_some v then TooManyValues ∷ [] else react_fault c again a [] h)) ≡ []
        → (if b then option_passes c again a v h else (not (is_some v) && react_passes c again a [] h)) ≡ true
    go true v e = option_ok c again a v h e
    go false None e = react_ok c again a [] h e
    go false (Some v) e = absurd (some_kind _ _ e)

short_ok : (c : List Rule) (again : Bool) (r : Option Rule) (rest : Text) (h : Held) (f : Held → Kinds) (p : Held → Bool) → ((g : Held) → f g ≡ [] → p g ≡ true)
    → short_fault c again r rest h f ≡ [] → short_passes c again r rest h p ≡ true
short_ok c again None rest h f p more e = absurd (some_kind _ _ e)
short_ok c again (Some a) rest h f p more e = go (takes_values a) e
  where
    go : (b : Bool) → (if b then option_fault c again a (attached_value rest) h else or_else (react_fault c again a [] h) (f (reacted c a [] h))) ≡ []
        → (if b then option_passes c again a (attached_value rest) h else (react_passes c again a [] h && p (reacted c a [] h))) ≡ true
    go true e = option_ok c again a (attached_value rest) h e
    go false e = let parts = or_none (react_fault c again a [] h) _ e in and _ _ (react_ok c again a [] h parts.0) (more _ parts.1)

bundle_ok : (c : List Rule) (again : Bool) (x : Option ℕ) (flags : Text) (skip : ℕ) (h : Held) (f : Text → ℕ → Held → Kinds) (p : Text → ℕ → Held → Bool)
    → ((t : Text) (n : ℕ) (g : Held) → f t n g ≡ [] → p t n g ≡ true) → bundle_step_fault c again x flags skip h f ≡ [] → bundle_step_passes c again x flags skip h p ≡ true
bundle_ok c again None flags skip h f p more e = refl
bundle_ok c again (Some x) flags zero h f p more e =
    short_ok c again (arg_by_short c x) (drop (length (encode_utf8 x)) flags) h _ _ (λ g. more (drop (length (encode_utf8 x)) flags) 0 g) e
bundle_ok c again (Some x) flags (suc skip) h f p more e = more (drop (length (encode_utf8 x)) flags) skip h e

flags_ok : (c : List Rule) (again : Bool) (k : ℕ) (flags : Text) (skip : ℕ) (h : Held) → flags_fault c again k flags skip h ≡ [] → flags_pass c again k flags skip h ≡ true
unfolding flags_fault flags_pass
flags_ok c again zero flags skip h e = refl
flags_ok c again (suc k) flags skip h e = bundle_ok c again (slice_get (chars flags) 0) flags skip h (flags_fault c again k) (flags_pass c again k) (flags_ok c again k) e

flag_word_ok : (c : List Rule) (again : Bool) (p : Option (Text × Option Text)) (word : Text) (h : Held) → flag_word_fault c again p word h ≡ [] → flag_word_passes c again p word h ≡ true
flag_word_ok c again (Some p) word h e = long_ok c again (arg_by_long c p.0) p.1 h e
flag_word_ok c again None word h e = go (short_of word) e
  where
    go : (flags : Option Text) → option_map_or (λ f. flags_fault c again (length f) f h.skip (record h { skip = 0 })) flags [] ≡ []
        → option_map_or (λ f. flags_pass c again (length f) f h.skip (record h { skip = 0 })) flags true ≡ true
    go None e = refl
    go (Some f) e = flags_ok c again (length f) f h.skip (record h { skip = 0 }) e

word_ok : (s : Shape) (names : Names) (late : Bool) (waiting : Waiting) (word : Text) (h : Held) → word_fault s names late waiting word h ≡ [] → word_passes s names late waiting word h ≡ true
word_ok s names true waiting word h e = refl
word_ok s names false waiting word h e = other (subcommand_met names waiting word) e
  where
    help : (x y : Bool) → (if x && not y then DisplayHelp ∷ InvalidSubcommand ∷ [] else []) ≡ [] → (not x || y) ≡ true
    help true true e = refl
    help true false e = absurd (some_kind _ _ e)
    help false y e = refl

    plain : (b : Bool) → (if b then [] else flag_word_fault s.rules s.args_override_self (long_of word) word h) ≡ [] → (b || flag_word_passes s.rules s.args_override_self (long_of word) word h) ≡ true
    plain true e = refl
    plain false e = flag_word_ok s.rules s.args_override_self (long_of word) word h e

    other : (name : Option Text) → other_fault s name word h ≡ [] → other_passes s name word h ≡ true
    other (Some name) e = help (bytes_eq name (codes "help")) s.disable_help_subcommand e
    other None e = plain (bytes_eq word (45 ∷ 45 ∷ [])) e

step_ok : (s : Shape) (position : ℕ) (h : Held) (x : Step) → step_fault s position h x ≡ [] → step_passes s position h x ≡ true
step_ok s position h (next w) e = refl
step_ok s position h (trailing n) e = refl
step_ok s position h (subcommand name) e = refl
step_ok s position h value e = go (arg_by_index s.rules position) e
  where
    stray : (b : Bool) → (if b then UnknownArgument ∷ [] else UnknownArgument ∷ InvalidSubcommand ∷ []) ≡ [] → ⊥
    stray true e = some_kind _ _ e
    stray false e = some_kind _ _ e

    late : (a : Rule) (b : Bool) → (if b then [] else settle_fault s.rules s.args_override_self h) ≡ [] → (b || settle_passes s.rules s.args_override_self h) ≡ true
    late a true e = refl
    late a false e = settle_ok s.rules s.args_override_self h e

    go : (r : Option Rule) → option_map_or (λ a. positional_fault s.rules s.args_override_self a h) r (if s.is_leaf then UnknownArgument ∷ [] else UnknownArgument ∷ InvalidSubcommand ∷ []) ≡ []
        → option_map_or (λ a. positional_passes s.rules s.args_override_self a h) r false ≡ true
    go None e = absurd (stray s.is_leaf e)
    go (Some a) e = late a (is_pending a h.pending && takes_several a) e

turn_ok : (s : Shape) (names : Names) (w : Walk) (word : Text) → turn_fault s names w word ≡ [] → turn_passes s names w word ≡ true
turn_ok s names w word e = go (is_some w.stopped) e
  where
    met : Held × Step
    met = word_met s.rules names w.is_trailing w.waiting w.position word w.held

    go : (b : Bool) → (if b then [] else or_else (word_fault s names w.is_trailing w.waiting word w.held) (step_fault s w.position met.0 met.1)) ≡ []
        → (b || (word_passes s names w.is_trailing w.waiting word w.held && step_passes s w.position met.0 met.1)) ≡ true
    go true e = refl
    go false e =
        let parts = or_none (word_fault s names w.is_trailing w.waiting word w.held) (step_fault s w.position met.0 met.1) e in
        and (word_passes s names w.is_trailing w.waiting word w.held) (step_passes s w.position met.0 met.1) (word_ok s names w.is_trailing w.waiting word w.held parts.0) (step_ok s w.position met.0 met.1 parts.1)

walk_ok : (s : Shape) (names : Names) (w : Walk) (words : List Text) → walk_fault s names w words ≡ [] → walk_passes s names w words ≡ true
unfolding walk_fault walk_passes
walk_ok s names w [] e = refl
walk_ok s names w (word ∷ rest) e =
    let parts = or_none (turn_fault s names w word) _ e in
    and _ _ (turn_ok s names w word parts.0) (walk_ok s names (walked s.rules names w word) rest parts.1)

-- what is required is there
given_here : (x y rest : Bool) (all : Bool) → (rest ≡ false → all ≡ true) → ((x && not y) || rest) ≡ false → ((not x || y) && all) ≡ true
given_here true true rest all more e = more e
given_here true false rest all more e = absurd (true≢false e)
given_here false y rest all more e = more e

all_given : (rules : List Rule) (rows : List Row) → list_any (λ a. a.required && not (is_given a.id rows)) rules ≡ false → list_all (λ a. not a.required || is_given a.id rows) rules ≡ true
all_given [] rows e = refl
all_given (a ∷ rules) rows e = given_here a.required (is_given a.id rows) _ _ (all_given rules rows) e

valid_ok : (s : Shape) (rows : List Row) → list_all (λ a. a.is_free) s.rules ≡ true → check_fault s rows false ≡ [] → is_valid s rows false ≡ true
valid_ok s rows free e =
    go s.arg_required_else_help (list_any (λ r. explicit_source r.source) rows) s.subcommand_required s.subcommand_negates_reqs
    (list_any (λ a. a.required && not (is_given a.id rows)) s.rules) refl e
  where
    go : (help some sub negates wants : Bool) → list_any (λ a. a.required && not (is_given a.id rows)) s.rules ≡ wants
        → check_kinds (not false && (help && not some)) (not false && sub) (not (negates && false) && wants) ≡ []
        → ((not help || (false || some)) && ((not sub || false) && (list_all (λ a. a.is_free) s.rules && ((negates && false) || list_all (λ a. not a.required || is_given a.id rows) s.rules)))) ≡ true
    go true false sub negates wants is e = absurd (some_kind _ _ e)
    go true true true negates wants is e = absurd (some_kind _ _ e)
    go false some true negates wants is e = absurd (some_kind _ _ e)
    go true true false true true is e = absurd (some_kind _ _ e)
    go true true false false true is e = absurd (some_kind _ _ e)
    go false some false true true is e = absurd (some_kind _ _ e)
    go false some false false true is e = absurd (some_kind _ _ e)
    go true true false true false is e = and _ _ free (all_given s.rules rows is)
    go true true false false false is e = and _ _ free (all_given s.rules rows is)
    go false some false true false is e = and _ _ free (all_given s.rules rows is)
    go false some false false false is e = and _ _ free (all_given s.rules rows is)

-- a simple command without subcommands, whose defaults are accepted and whose arguments have no rule on another
pub record IsPlainLeaf (a : App) : Type 0 where
  pub simple : is_simple a ≡ true
  pub leaf : (built a).subs ≡ []
  pub defaults : list_all default_passes (built a).top.rules ≡ true
  pub free : list_all (λ r. r.is_free) (built a).top.rules ≡ true

-- such a command takes the words at which nothing is at fault
pub taken_without_fault : (a : App) → IsPlainLeaf a → (words : List Text) → fault_of a words ≡ [] → takes a words ≡ true
taken_without_fault a plain words e = and (is_simple a) _ plain.simple (leaf_takes (built a) nothing_held ws plain.leaf passes)
  where
    s : Shape
    s = (built a).top

    ws : List Text
    ws = argument_words a words

    -- no word names a subcommand where there is none
    alone : (stop : Option (Text × List Text)) → level_fault s [] nothing_held ws (is_some (entered (record (built a) { subs = [] }) stop)) (entered_fault (record (built a) { subs = [] }) stop) ≡ []
        → level_fault s [] nothing_held ws false [] ≡ []
    alone None e = e
    alone (Some p) e = e

    end : Held
    end = (walk s.rules [] nothing_held ws).held

    passes : level_passes s [] nothing_held ws false ≡ true
    passes =
        let none = alone (walk s.rules [] nothing_held ws).stopped (sym (ap (λ subs. built_fault (record (built a) { subs = subs }) nothing_held ws) plain.leaf) ∙ e) in
        let first = or_none (walk_fault s [] (walk_from nothing_held) ws) _ none in
        let second = or_none (settle_fault s.rules s.args_override_self end) _ first.1 in
        let third = or_none (defaults_fault (settled s.rules end).rows s.rules) _ second.1 in
        and (walk_passes s [] (walk_from nothing_held) ws) _ (walk_ok s [] (walk_from nothing_held) ws first.0)
        (and (settle_passes s.rules s.args_override_self end) _ (settle_ok s.rules s.args_override_self end second.0)
        (and (list_all default_passes s.rules) _ plain.defaults (valid_ok s (finished s.rules end) plain.free third.1)))
