-- What the steps of the table leave of memory and stable memory, and that they answer by their signatures.
use Rattle.std.specs.Prelude.{◌≡◌, ℕ, ◌+◌, ◌*◌, ◌/◌, ◌%◌, ◌≤◌, ◌<◌, List, ◌++◌, length, replicate, take, drop, Option, Some, None, nat_le, refl}
use Rattle.std.proofs.Common.{sym, subst, ap, arith, ◌∙◌, length-drop}
use Rattle.std.proofs.lemmas.Bool.{cond_both, leb-true}
use Rattle.std.proofs.lemmas.List.{length-replicate, length-append, length-take}
use Rattle.wm_tree.specs.declared.types.ValType.{ValType}
use Rattle.wm_pages.specs.Over.{over}
use Rattle.wm_store.specs.Values.{limit_of}
use Rattle.wm_store.specs.Lists.{Lists, part, written, grown, pages_of}
use Rattle.wm_semantics.specs.Hosts.{IsAnswer, HasPages}
use Rattle.ic_api.specs.Steps.{Step}
use Rattle.ic_api.specs.Memory.{with_bytes, wrote, writes, source_copy}
use Rattle.ic_api.specs.Stable.{grew, stable_grow, stable_wrote, stable_write}

pub record ListsKept (s t : Lists) : Type 0 where
  pub globals : t.globals ≡ s.globals
  pub table : t.table ≡ s.table
  pub maximum : t.maximum ≡ s.maximum
  pub memory : length t.memory ≡ length s.memory
  pub stable : length s.stable ≤ length t.stable
  pub stable_pages : HasPages 256 s.stable → HasPages 256 t.stable

pub same_lists : (s : Lists) → ListsKept s s
same_lists s = record { globals = refl; table = refl; maximum = refl; memory = refl; stable = omega arith; stable_pages = λ h. h }

-- what a step on the lists keeps, by the result that its call has
pub record ListStepKept (result : Option ValType) (s : Lists) (step : Step Lists) : Type 0 where
  pub kept : ListsKept s step.after
  pub is_answer : HasPages 256 s.stable → IsAnswer result step.answer

-- ---- lists that are written into

length-over : (at : ℕ) (bytes xs : List ℕ) → at + length bytes ≤ length xs → length (over at bytes xs) ≡ length xs
unfolding over
length-over at bytes xs fits =
    omega (arith, length-append (take at xs) (bytes ++ drop (at + length bytes) xs), length-append bytes (drop (at + length bytes) xs), length-take at xs, length-drop (at + length bytes) xs)

-- a list of that length, where there is one
abbrev pub IsLong : ℕ → Option (List ℕ) → Type 0
IsLong n None = Unit {0}
IsLong n (Some xs) = length xs ≡ n

pub written_long : (at : ℕ) (bytes xs : List ℕ) → IsLong (length xs) (written at bytes xs)
written_long at bytes xs =
    cond_both (nat_le (at + length bytes) (length xs)) (Some (over at bytes xs)) None (IsLong (length xs)) (λ e. length-over at bytes xs (leb-true (at + length bytes) (length xs) e)) (λ e. tt)

pub with_memory : (s : Lists) (memory : List ℕ) → length memory ≡ length s.memory → ListsKept s (record s { memory = memory })
with_memory s memory e = record { globals = refl; table = refl; maximum = refl; memory = e; stable = omega arith; stable_pages = λ h. h }

pub same_pages : (n : ℕ) (xs ys : List ℕ) → length ys ≡ length xs → HasPages n xs → HasPages n ys
same_pages n xs ys e h = record {
  whole = subst (λ (k : ℕ). k % 65536 ≡ 0) (sym e) h.whole;
  within = subst (λ (k : ℕ). k / 65536 ≤ n) (sym e) h.within;
}

with_stable : (s : Lists) (stable : List ℕ) → length stable ≡ length s.stable → ListsKept s (record s { stable = stable })
with_stable s stable e = record { globals = refl; table = refl; maximum = refl; memory = refl; stable = omega (arith, e); stable_pages = same_pages 256 s.stable stable e }

when_read : (o : Option (List ℕ)) (s : Lists) (f : List ℕ → Step Lists) → ((bytes : List ℕ) → ListStepKept None s (f bytes)) → ListStepKept None s (with_bytes o s f)
when_read None s f kept = record { kept = same_lists s; is_answer = λ h. tt }
when_read (Some bytes) s f kept = kept bytes

wrote_step : (s : Lists) (o : Option (List ℕ)) → IsLong (length s.memory) o → ListStepKept None s (wrote s o)
wrote_step s None long = record { kept = same_lists s; is_answer = λ h. tt }
wrote_step s (Some memory) long = record { kept = with_memory s memory long; is_answer = λ h. tt }

pub write_step : (dst : ℕ) (bytes : List ℕ) (s : Lists) → ListStepKept None s (writes dst bytes s)
write_step dst bytes s = wrote_step s (written dst bytes s.memory) (written_long dst bytes s.memory)

pub copy_step : (source : List ℕ) (dst offset size : ℕ) (s : Lists) → ListStepKept None s (source_copy source dst offset size s)
copy_step source dst offset size s = when_read (part offset size source) s (λ bytes. writes dst bytes s) (λ bytes. write_step dst bytes s)

stable_wrote_step : (s : Lists) (o : Option (List ℕ)) → IsLong (length s.stable) o → ListStepKept None s (stable_wrote s o)
stable_wrote_step s None long = record { kept = same_lists s; is_answer = λ h. tt }
stable_wrote_step s (Some stable) long = record { kept = with_stable s stable long; is_answer = λ h. tt }

pub stable_write_step : (offset src size : ℕ) (s : Lists) → ListStepKept None s (stable_write offset src size s)
stable_write_step offset src size s =
    when_read (part src size s.memory) s (λ bytes. stable_wrote s (written offset bytes s.stable)) (λ bytes.
    stable_wrote_step s (written offset bytes s.stable) (written_long offset bytes s.stable))

-- ---- stable memory that grows

-- whole pages, this many more and not too many
abbrev IsGrown : List ℕ → Option (List ℕ) → Type 0
IsGrown xs None = Unit {0}
IsGrown xs (Some ys) = (length xs ≤ length ys) × (HasPages 256 xs → HasPages 256 ys)

grown_by : (pages : ℕ) (xs : List ℕ) → pages_of xs + pages ≤ 256 → HasPages 256 xs → HasPages 256 (xs ++ replicate (65536 * pages) 0)
grown_by pages xs few h =
    let e : length (xs ++ replicate (65536 * pages) 0) ≡ length xs + 65536 * pages = length-append xs (replicate (65536 * pages) 0) ∙ ap (λ (n : ℕ). length xs + n) (length-replicate (65536 * pages) 0) in
    record {
      whole = subst (λ (k : ℕ). k % 65536 ≡ 0) (sym e) (omega (arith, h.whole));
      within = subst (λ (k : ℕ). k / 65536 ≤ 256) (sym e) (omega (arith, h.whole, few));
    }

grown_well : (pages : ℕ) (xs : List ℕ) → IsGrown xs (grown 256 pages xs)
grown_well pages xs =
    cond_both (nat_le (pages_of xs + pages) 256) (Some (xs ++ replicate (65536 * pages) 0)) None (IsGrown xs)
    (λ e. (omega (arith, length-append xs (replicate (65536 * pages) 0)), grown_by pages xs (leb-true (pages_of xs + pages) 256 e)))
    (λ e. tt)

-- 256 pages, and the number that refuses, are in the range of the result
grew_step : (t : ValType) (refusal : ℕ) (s : Lists) (o : Option (List ℕ)) → IsGrown s.stable o → refusal < limit_of t → 256 < limit_of t → ListStepKept (Some t) s (grew refusal s o)
grew_step t refusal s None well low few = record { kept = same_lists s; is_answer = λ h. low }
grew_step t refusal s (Some stable) well low few = record {
  kept = record { globals = refl; table = refl; maximum = refl; memory = refl; stable = well.0; stable_pages = well.1 };
  is_answer = λ h. omega (arith, h.within, few);
}

pub grow_step : (t : ValType) (refusal pages : ℕ) (s : Lists) → refusal < limit_of t → 256 < limit_of t → ListStepKept (Some t) s (stable_grow refusal pages s)
grow_step t refusal pages s low few = grew_step t refusal s (grown 256 pages s.stable) (grown_well pages s.stable) low few
