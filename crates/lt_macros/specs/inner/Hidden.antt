-- Names that are found without going through all entries. A run is a list of entries each of which is added to the environment
-- just before it. An entry is found by the place where its run starts, by its kind and by its name.
use Rattle.std.specs.Prelude.{◌≡◌, ◌-◌, ℕ, zero, suc, Bool, true, false, List, map, length, slice_get, unwrap_or, if◌then◌else◌, nat_eq}
use Rattle.std.specs.Borrow.{Bor}
use Rattle.std.specs.declared.option.Option.{Option}
use Rattle.std.specs.declared.option.Option.TheVariants.{None, Some}
use Rattle.indexmap.specs.IndexMap.{IndexMap, get}
use Rattle.lt_macros.specs.contracts.key.KeyPartialEq.TheImpl.{eq-value}
use Rattle.lt_macros.specs.declared.index.Item.{Item}
use Rattle.lt_macros.specs.declared.key.Key.{Key}
use Rattle.lt_macros.specs.declared.key.NameKind.{NameKind}
use Rattle.lt_macros.specs.declared.key.NameKind.TheVariants.{Name, Exception}
use Rattle.lt_macros.specs.declared.scope.Entry.{Entry}
use Rattle.lt_macros.specs.inner.Reading.{is_name}

-- whether two keys are the same
abbrev pub same_key : Key → Key → Bool
same_key = eq-value.it

-- whether there is this key
abbrev pub is_key : Option Key → Key → Bool
is_key None key = false
is_key (Some k) key = same_key k key

-- the newest of a key among so many, from 1; 0 where there is none
abbrev pub newest_below : List Key → Key → ℕ → ℕ
newest_below ks key zero = 0
newest_below ks key (suc k) = if is_key (slice_get ks k) key then suc k else newest_below ks key k

-- the number that a key has in a map, or 0
abbrev pub number_in : {S : Type 0} → IndexMap Key ℕ S → Key → ℕ
number_in numbers key = unwrap_or (get same_key numbers key) 0

-- what an item is found by
abbrev pub item_key : Item → Key
item_key x = x.key

-- what an index has: of each key the newest item, and of each item the one that it hides
pub record IsIndexed {S : Type 0} (items : List Item) (numbers : IndexMap Key ℕ S) : Type 0 where
  -- each key leads to the newest item of it
  pub leads : (key : Key) → number_in numbers key ≡ newest_below (map item_key items) key (length items)
  -- and each item to the one that it hides
  pub hides : (k : ℕ) (x : Item) → slice_get items k ≡ Some x → x.hidden ≡ newest_below (map item_key items) x.key k

-- the kind of an entry
abbrev pub kind_of : Bool → NameKind
kind_of true = Name
kind_of false = Exception

-- the run of a key that may be missing
abbrev pub run_in : Option Key → ℕ
run_in None = 0
run_in (Some k) = k.run

-- the run of the key at a place
abbrev pub run_of : List Key → ℕ → ℕ
run_of ks k = run_in (slice_get ks k)

-- the run of the newest of so many keys
abbrev pub run_before : List Key → ℕ → ℕ
run_before ks zero = 0
run_before ks (suc k) = run_of ks k

-- the run of an entry at a place that is added to this environment
abbrev pub run_from : List Key → ℕ → ℕ → ℕ
run_from ks place outer = if nat_eq outer place then run_before ks place else place

-- what an entry at a place is found by
abbrev pub key_of : List Key → ℕ → Entry → Key
key_of ks place e = record { run = run_from ks place e.outer; kind = kind_of (is_name e.binding); name = e.name }

-- a name of a kind in the run of an environment
abbrev pub key_in : List Key → ℕ → NameKind → Bor (List ℕ) → Key
key_in ks environment kind name = record { run = run_of ks (environment - 1); kind = kind; name = name }

-- the environment that an entry is added to, which may be missing
abbrev pub outer_in : Option Entry → ℕ
outer_in None = 0
outer_in (Some e) = e.outer

-- the entries have these keys
pub record AreKeyed (items : List Entry) (ks : List Key) : Type 0 where
  pub size : length ks ≡ length items
  pub each : (k : ℕ) (e : Entry) → slice_get items k ≡ Some e → slice_get ks k ≡ Some (key_of ks k e)
