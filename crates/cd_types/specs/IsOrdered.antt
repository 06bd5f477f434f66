-- Candid specification, "Binary Format" (T): the order of fields, cases and methods
use Rattle.std.specs.Prelude.{ℕ, suc, ◌^◌, Bool, true, ◌&&◌, List, [], ◌∷◌, map, nat_lt, nat_le}
use Rattle.std.specs.List.{list_all}
use Rattle.std.specs.Str.{is_utf8}
use Rattle.std.specs.Cmp.Lexicographic.{slice_cmp}
use Rattle.std.specs.Ordering.{is_lt, nat_cmp}
use Rattle.cd_types.specs.declared.entry.Entry.{Entry}
use Rattle.cd_types.specs.declared.entry.Entry.TheVariants.{Opt, Seq, Rec, Var, Func, Service}

-- the ids are at least `least`, strictly rise, and are below 2^32
abbrev pub ids_rise_from : ℕ → List ℕ → Bool
ids_rise_from least [] = true
ids_rise_from least (id ∷ ids) = nat_le least id && nat_lt id (2 ^ 32) && ids_rise_from (suc id) ids

-- after `last` the names strictly rise by their bytes, and are UTF-8
abbrev pub names_rise_after : List ℕ → List (List ℕ) → Bool
names_rise_after last [] = true
names_rise_after last (name ∷ names) = is_lt (slice_cmp nat_cmp last name) && is_utf8 name && names_rise_after name names

-- the names strictly rise by their bytes, and are UTF-8
abbrev pub names_rise : List (List ℕ) → Bool
names_rise [] = true
names_rise (name ∷ names) = is_utf8 name && names_rise_after name names

-- 1 query, 2 oneway, 3 composite_query
abbrev pub is_note : ℕ → Bool
is_note note = nat_le 1 note && nat_le note 3

-- ids and names strictly rise, ids are below 2^32, names are UTF-8, and notes are known
abbrev pub is_ordered : Entry → Bool
is_ordered (Opt type) = true
is_ordered (Seq type) = true
is_ordered (Rec fields) = ids_rise_from 0 (map (λ f. f.0) fields)
is_ordered (Var cases) = ids_rise_from 0 (map (λ f. f.0) cases)
is_ordered (Func args results notes) = list_all is_note notes
is_ordered (Service methods) = names_rise (map (λ m. m.0) methods)
