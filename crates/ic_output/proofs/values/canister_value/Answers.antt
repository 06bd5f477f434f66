use Rattle.std.proofs.Common.{◌≡◌, ◌∙◌, ap, codes, length, rules, sym}
use Rattle.std.proofs.lemmas.List.{length-map}
use Rattle.serde_json.specs.Data.{no_members, object, string}
use Rattle.serde_json.specs.View.{members_view, view}
use Rattle.serde_json.proofs.OnLiterals.{serde_json_on_literals}
use Rattle.serde_json.specs.declared.value.Value.{the_lemmas, Object}
use Rattle.sha2.specs.Sha256.{sha256}
use Rattle.wm_store.specs.Held.{Held}
use Rattle.wm_store.specs.Lists.{pages_of}
use Rattle.ic_behaviour.specs.Counted.{bare}
use Rattle.ic_state.specs.Seen.{entry_of}
use Rattle.ic_output.specs.StateLine.{canister_data, count_data, decimal_data, hex_data, list_of, principal_data, module_hash, status_text}
use Rattle.ic_output.proofs.Adding.{add}
use Rattle.ic_output.proofs.values.canister_value.Goals as goal

pub returns : goal.returns
unfolding serde_json_on_literals canister_data
returns c =
    let now = c.args.canister.now in
    let s = (entry_of (c.args.id.now, c.args.canister.now)).1 in
    let m0 : members_view c.new-map.result.entries ≡ no_members = ap (λ es. members_view es) c.new-map.ensures.empty in
    let m1 = add (codes "balance") _ (decimal_data s.balance) _ _ _ c.in_ok-map.ensures c.in_ok-balance.ensures m0 in
    let m2 = add (codes "certified") _ (hex_data s.certified) _ _ _ c.in_ok-map-2.ensures c.in_ok-certified.ensures m1 in
    let m3 = add (codes "contexts") _ (count_data (length s.contexts)) _ _ _ c.in_ok-map-3.ensures
    (c.from-contexts.ensures ∙ ap count_data (c.count.ensures ∙ sym (length-map now.contexts bare))) m2 in
    let m4 = add (codes "controllers") _ (list_of principal_data s.controllers) _ _ _ c.in_ok-map-4.ensures c.in_ok-controllers.ensures m3 in
    let m5 = add (codes "globals") _ (list_of decimal_data s.store.globals) _ _ _ c.in_ok-map-5.ensures (c.in_ok-globals.ensures ∙ ap (list_of decimal_data) (c.globals.ensures ∙ ap (λ (x : Held). x.lists.globals) c.get-store.ensures)) m4 in
    let m6 = add (codes "id") _ (principal_data c.args.id.now) _ _ _ c.in_ok-map-6.ensures c.in_ok-id.ensures m5 in
    let m7 = add (codes "memory") _ (count_data (pages_of s.store.memory)) _ _ _ c.in_ok-map-7.ensures (c.from-memory.ensures ∙ ap count_data (c.pages.ensures.pages ∙ ap (λ (x : Held). pages_of x.lists.memory) c.get-store.ensures)) m6 in
    let m8 = add (codes "memory_hash") _ (hex_data (sha256 s.store.memory)) _ _ _ c.in_ok-map-8.ensures (c.in_ok-memory_hash.ensures ∙ ap (λ b. hex_data (sha256 b)) (c.memory.ensures ∙ ap (λ (x : Held). x.lists.memory) c.get-store.ensures)) m7 in
    let m9 = add (codes "module") _ (hex_data (module_hash s.code)) _ _ _ c.in_ok-map-9.ensures c.in_ok-module.ensures m8 in
    let m10 = add (codes "stable") _ (count_data (pages_of s.store.stable)) _ _ _ c.in_ok-map-10.ensures (c.from-stable.ensures ∙ ap count_data (c.stable_pages.ensures.pages ∙ ap (λ (x : Held). pages_of x.lists.stable) c.get-store.ensures)) m9 in
    let m11 = add (codes "stable_hash") _ (hex_data (sha256 s.store.stable)) _ _ _ c.in_ok-map-11.ensures (c.in_ok-stable_hash.ensures ∙ ap (λ b. hex_data (sha256 b)) (c.stable.ensures ∙ ap (λ (x : Held). x.lists.stable) c.get-store.ensures)) m10 in
    let m12 = add (codes "status") _ (string (status_text s.phase)) _ _ _ c.in_ok-map-12.ensures (c.in_ok-status.ensures ∙ ap string c.status.ensures) m11 in
    let last : view (Object c.in_ok-map-12.map) ≡ object (members_view c.in_ok-map-12.map.entries) = search (rules, the_lemmas) in
    last ∙ ap object m12
