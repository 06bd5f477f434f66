-- What is filled in says one thing at most, and outcomes that are met bind one.
use Rattle.std.proofs.Common.{◌≡◌, ◌↔◌, ℕ, false, List, [], ◌∷◌, Option, Some, None, sym, ap, subst, ◌∙◌, inl, inr}
use Rattle.std.specs.Prelude.{Result, Ok}
use Rattle.ic_base.proofs.Steps.{some_is}
use Rattle.cd_codec.specs.Content.{Content}
use Rattle.cd_codec.specs.Message.{message_spelling}
use Rattle.cd_coerce.specs.declared.fault.DidlFault.{DidlFault}
use Rattle.cd_coerce.specs.Decodes.{Decodes}
use Rattle.cd_coerce.specs.Decoded.{decoded}
use Rattle.cd_part.proofs.PartLaws.{one_part, part_table}
use Rattle.cd_tokens.specs.Token.{Token}
use Rattle.cd_tokens.proofs.Streams.{one_list}
use Rattle.cd_text.specs.Whole.{SaysArguments}
use Rattle.cd_text.proofs.Arguments.{arguments_again, good_table}
use Rattle.ct_names.specs.Exchange.{exchanged_by}
use Rattle.ct_check.specs.Filling.{Filling}
use Rattle.ct_check.specs.declared.checked.CheckedOutcome.{CheckedOutcome}
use Rattle.ct_check.specs.declared.checked.CheckedOutcome.TheVariants as outcomes
use Rattle.ct_outcomes.specs.declared.standing.Standing.{Standing}
use Rattle.ct_outcomes.specs.declared.standing.Standing.TheVariants.{Principal, Service, Value}
use Rattle.ct_outcomes.specs.declared.named.Named.{Named}
use Rattle.ct_outcomes.specs.declared.came.Came.{Came}
use Rattle.ct_outcomes.specs.declared.came.Came.TheVariants as coming
use Rattle.ct_outcomes.specs.Types.{Types}
use Rattle.ct_outcomes.specs.Standings.{IsReadFor, IsReadAt, AreReadAt, IsFilledIn}
use Rattle.ct_outcomes.specs.Arguments.{IsNeeded, IsMessageOf, IsArgument, in_parentheses}
use Rattle.ct_outcomes.specs.Meets.{Reads, MeetsSaid, MeetsFilled, Meets, MeetsFirst, MeetsOne, wanted}
use Rattle.ct_outcomes.proofs.Patterns.{one_said}

-- ---- what is filled in

one_read : (standing : Standing) (tokens others : List Token) → IsReadFor standing tokens → IsReadFor standing others → tokens ≡ others
one_read (Principal id) tokens others is are = is ∙ sym are
one_read (Service id) tokens others is are = is ∙ sym are
one_read (Value text) tokens others is are = one_list false tokens others text is are

one_read_at : (names : List Named) (slot : ℕ) (tokens others : List Token) → IsReadAt names slot tokens → IsReadAt names slot others → tokens ≡ others
one_read_at names slot tokens others is are =
    let same : is.0 ≡ are.0 = some_is {A = Standing} is.0 are.0 (sym is.1 ∙ are.1) in
    one_read are.0 tokens others (subst (λ s. IsReadFor s tokens) same is.2) are.2

all_read_at : (names : List Named) (slots : List ℕ) (meanings others : List (List Token)) → AreReadAt names slots meanings → AreReadAt names slots others → meanings ≡ others
all_read_at names [] meanings others is are = is ∙ sym are
all_read_at names (slot ∷ slots) meanings others is are =
    is.2 ∙ ap (λ (t : List Token). t ∷ is.1) (one_read_at names slot is.0 are.0 is.3 are.3) ∙ ap (λ (ts : List (List Token)). are.0 ∷ ts) (all_read_at names slots is.1 are.1 is.4 are.4) ∙ sym are.2

pub one_filling : (names : List Named) (filling : Filling) (tokens others : List Token) → IsFilledIn names filling tokens → IsFilledIn names filling others → tokens ≡ others
one_filling names filling tokens others is are =
    is.2 ∙ ap (λ (ms : List (List Token)). exchanged_by ms filling.tokens) (all_read_at names filling.names is.0 are.0 is.1 are.1) ∙ sym are.2

-- ---- messages

one_part_needed : (types p q : Types) → IsNeeded types p → IsNeeded types q → p ≡ q
one_part_needed types p q is are = one_part types.0 types.1 p q is.entries are.entries

pub values_said : (types part : Types) (values others : List Content) (tokens : List Token) → IsNeeded types part → SaysArguments part.0 part.1 values tokens → SaysArguments part.0 part.1 others tokens → values ≡ others
values_said types part values others tokens needed is are =
    let good = good_table part.0 (part_table types.0 types.1 part needed.entries needed.well_formed) in
    some_is {A = List Content} values others (sym (arguments_again part.0 good part.1 values tokens is) ∙ arguments_again part.0 good part.1 others tokens are)

-- what a message is, at the part that another one has
pub said_at : (types part : Types) (tokens : List Token) (bytes : List ℕ) → IsNeeded types part → (is : IsMessageOf types tokens bytes)
    → SaysArguments part.0 part.1 is.values (in_parentheses tokens) × (bytes ≡ message_spelling part.0 part.1 is.values)
said_at types part tokens bytes needed is =
    let same = one_part_needed types is.part part is.needed needed in
    (subst (λ (p : Types). SaysArguments p.0 p.1 is.values (in_parentheses tokens)) same is.said, is.written ∙ ap (λ (p : Types). message_spelling p.0 p.1 is.values) same)

one_message : (types : Types) (tokens : List Token) (bytes others : List ℕ) → IsMessageOf types tokens bytes → IsMessageOf types tokens others → bytes ≡ others
one_message types tokens bytes others is are =
    let at = said_at types are.part tokens bytes are.needed is in
    at.1 ∙ ap (message_spelling are.part.0 are.part.1) (values_said types are.part is.values are.values (in_parentheses tokens) are.needed at.0 are.said) ∙ sym are.written

pub one_argument : (types : Types) (names : List Named) (filling : Option Filling) (arg other : List ℕ) → IsArgument types names filling arg → IsArgument types names filling other → arg ≡ other
one_argument types names None arg other is are = one_message types [] arg other is are
one_argument types names (Some filling) arg other is are =
    let same = one_filling names filling is.0 are.0 is.1 are.1 in
    one_message types are.0 arg other (subst (λ ts. IsMessageOf types ts arg) same is.2) are.2

-- ---- outcomes

-- what `decode` follows gives the values that bytes decode to
abbrev pub OneAnswer : Type 0
OneAnswer = (expected : Types) (bytes : List ℕ) (values : List Content) → (decoded expected bytes ≡ Ok values) ↔ Decodes expected bytes values

ok_is : (values others : List Content) (r : Result (List Content) DidlFault) → r ≡ Ok values → r ≡ Ok others → values ≡ others
ok_is values others r e f = cc

pub decoded_at : (types part : Types) (bytes : List ℕ) (values : List Content) → IsNeeded types part → Reads types bytes values → Decodes part bytes values
decoded_at types part bytes values needed is = subst (λ (p : Types). Decodes p bytes values) (one_part_needed types is.0 part is.1 needed) is.2

pub one_reading : OneAnswer → (types : Types) (bytes : List ℕ) (values others : List Content) → Reads types bytes values → Reads types bytes others → values ≡ others
one_reading law types bytes values others is are =
    let at = decoded_at types are.0 bytes values are.1 is in
    ok_is values others (decoded are.0 bytes) ((law are.0 bytes values).1 at) ((law are.0 bytes others).1 are.2)

one_filled : (types : Types) (names : List Named) (filling : Filling) (values : List Content) (bound other : List Named) → MeetsFilled types names filling values bound → MeetsFilled types names filling values other → bound ≡ other
one_filled types names filling values bound other is are =
    let same = one_filling names filling is.0 are.0 is.1 are.1 in
    one_said types are.0 values bound other (subst (λ ts. MeetsSaid types ts values bound) same is.2) are.2

one_met : OneAnswer → (types : Types) (names : List Named) (outcome : CheckedOutcome) (came : Came) (bound other : List Named) → Meets types names outcome came bound → Meets types names outcome came other → bound ≡ other
one_met law types names (outcomes.Replies None) (coming.Replied bytes) bound other is are = is.0 ∙ sym are.0
one_met law types names (outcomes.Replies (Some filling)) (coming.Replied bytes) bound other is are =
    let same = one_reading law types bytes is.0 are.0 is.1 are.1 in
    one_filled types names filling are.0 bound other (subst (λ vs. MeetsFilled types names filling vs bound) same is.2) are.2
one_met law types names (outcomes.Rejects code part) (coming.Rejected k text) bound other is are = is.0 ∙ sym are.0
one_met law types names outcomes.Refused coming.Refused bound other is are = is ∙ sym are
one_met law types names _ _ bound other is are = absurd is

one_first : OneAnswer → (types : Types) (names : List Named) (expected : List CheckedOutcome) (came : Came) (bound other : List Named) → MeetsFirst types names expected came bound → MeetsFirst types names expected came other → bound ≡ other
one_first law types names [] came bound other is are = absurd is
one_first law types names (outcome ∷ others) came bound other (inl is) (inl are) = one_met law types names outcome came bound other is are
one_first law types names (outcome ∷ others) came bound other (inl is) (inr are) = absurd (are.0 bound is)
one_first law types names (outcome ∷ others) came bound other (inr is) (inl are) = absurd (is.0 other are)
one_first law types names (outcome ∷ others) came bound other (inr is) (inr are) = one_first law types names others came bound other is.1 are.1

pub one_meeting : OneAnswer → (types : Types) (names : List Named) (expected : List CheckedOutcome) (came : Came) (bound other : List Named) → MeetsOne types names expected came bound → MeetsOne types names expected came other → bound ≡ other
one_meeting law types names expected came bound other is are = one_first law types names (wanted expected) came bound other is are
