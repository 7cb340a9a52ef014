-- Groups of variables in turn.
use Rattle.std.proofs.Common.{◌≡◌, ℕ, suc, ◌+◌, ◌≤◌, ◌<◌, List, [], ◌∷◌, ◌++◌, length, map, take, drop, get_or, refl, ap, sym, ◌∙◌, arith, drop-cons, append_assoc, length-append}
use Rattle.std.proofs.lemmas.List.{append-nil, drop_all, length-map, map-append, take_all, take_more}
use Rattle.lt_ast.specs.Syntax as s
use Rattle.lt_ast.specs.Syntax.{Word, Grouping, Groupings}
use Rattle.lt_ast.specs.View.{word}
use Rattle.lt_ast.specs.inner.Lists.{groups_of}
use Rattle.lt_ast.specs.inner.Rows.{group_of}
use Rattle.lt_ast.specs.declared.name.Name.{Name}
use Rattle.lt_ast.specs.declared.group.Group.{Group}
use Rattle.lt_formula.specs.declared.role.Role.{Role}
use Rattle.lt_macros.specs.Environment.{Environment, parameter, variable, with_name, with_variables}
use Rattle.lt_macros.specs.Expanded.{Declared}
use Rattle.lt_macros.specs.Expansion.{group_variables, groups_variables, with_group, with_groups}
use Rattle.lt_macros.specs.Denotation.{Denotation, group_names}
use Rattle.lt_macros.specs.Tree.{declared}
use Rattle.lt_macros.specs.declared.tree.Declared.{Declared as Tree}
use Rattle.lt_macros.specs.inner.Work.{groups_work, with_ones}

-- the names from one on are that one, and those behind it
pub words_from : (names : List Name) (place : ℕ) (name : Name) → place < length names → name ≡ get_or names place name → map word (drop place names) ≡ word name ∷ map word (drop (place + 1) names)
words_from names place name h is =
    let next : suc place ≡ place + 1 = omega arith in
    ap (map word) (drop-cons names place name h ∙ (λ i. sym is i ∷ drop (next i) names))

-- so are groups
pub groups_from : (groups : List Group) (place : ℕ) (group : Group) → place < length groups → group ≡ get_or groups place group
    → groups_of (map group_of (drop place groups)) ≡ s.one_group (group_of group) (groups_of (map group_of (drop (place + 1) groups)))
groups_from groups place group h is =
    let next : suc place ≡ place + 1 = omega arith in
    ap (λ gs. groups_of (map group_of gs)) (drop-cons groups place group h ∙ (λ i. sym is i ∷ drop (next i) groups))

names_length : (names : List Name) → length (map (λ w. w.text) (map word names)) ≡ length names
names_length [] = refl
names_length (n ∷ names) = ap suc (names_length names)

-- one more name of a group is declared
pub name_declared : (f : Word → Declared) (names : List Name) (place : ℕ) (name : Name) (old new : List Tree) (one : Tree) (before : List Declared) → place < length names → name ≡ get_or names place name
    → new ≡ old ++ one ∷ [] → declared one ≡ f (word name)
    → map declared old ≡ before ++ map f (map word (take place names))
    → map declared new ≡ before ++ map f (map word (take (place + 1) names))
name_declared f names place name old new one before h is pushed made so_far =
    let passed : List Declared = map f (map word (take place names)) in
    let more : take (place + 1) names ≡ take place names ++ name ∷ [] = take_more names place name h ∙ (λ i. take place names ++ sym is i ∷ []) in
    let all : map f (map word (take (place + 1) names)) ≡ passed ++ f (word name) ∷ [] =
    ap (λ ns. map f (map word ns)) more ∙ ap (map f) (map-append word (take place names) (name ∷ [])) ∙ map-append f (map word (take place names)) (word name ∷ []) in
    ap (map declared) pushed
    ∙ map-append declared old (one ∷ [])
    ∙ (λ i. so_far i ++ made i ∷ [])
    ∙ append_assoc before passed (f (word name) ∷ [])
    ∙ sym (ap (λ ds. before ++ ds) all)

-- at the end all of them are
pub names_declared : (f : Word → Declared) (names written : List Name) (place : ℕ) (before all : List Declared) → length names ≤ place → names ≡ written
    → all ≡ before ++ map f (map word (take place names)) → all ≡ before ++ map f (map word written)
names_declared f names written place before all h whole so_far = so_far ∙ ap (λ ns. before ++ map f (map word ns)) (take_all place names h ∙ whole)

-- so many variables are behind a group
pub next_place : (n next : ℕ) (g : Group) → next ≡ n + length g.names.items.items → next ≡ n + length (group_names (group_of g))
next_place n next g is = is ∙ ap (λ m. n + m) (sym (names_length g.names.items.items))

-- one more group is declared
pub group_declared : (role : Role) (env inner : Environment Denotation) (n next : ℕ) (groups : List Group) (place : ℕ) (g : Group) (before after all : List Declared) → place < length groups → g ≡ get_or groups place g
    → after ≡ before ++ group_variables role env (group_of g) → inner ≡ with_group role n (group_of g) env → next ≡ n + length g.names.items.items
    → before ++ groups_variables role n env (groups_of (map group_of (drop place groups))) ≡ all
    → after ++ groups_variables role next inner (groups_of (map group_of (drop (place + 1) groups))) ≡ all
group_declared role env inner n next groups place g before after all h is made shown moved so_far =
    let rest = groups_of (map group_of (drop (place + 1) groups)) in
    let count = next_place n next g moved in
    (λ i. made i ++ groups_variables role (count i) (shown i) rest)
    ∙ append_assoc before (group_variables role env (group_of g)) (groups_variables role (n + length (group_names (group_of g))) (with_group role n (group_of g) env) rest)
    ∙ sym (ap (λ gs. before ++ groups_variables role n env gs) (groups_from groups place g h is))
    ∙ so_far

-- and visible
pub group_visible : (role : Role) (env inner all : Environment Denotation) (n next : ℕ) (groups : List Group) (place : ℕ) (g : Group) → place < length groups → g ≡ get_or groups place g
    → inner ≡ with_group role n (group_of g) env → next ≡ n + length g.names.items.items
    → with_groups role n (groups_of (map group_of (drop place groups))) env ≡ all
    → with_groups role next (groups_of (map group_of (drop (place + 1) groups))) inner ≡ all
group_visible role env inner all n next groups place g h is shown moved so_far =
    let rest = groups_of (map group_of (drop (place + 1) groups)) in
    let count = next_place n next g moved in
    (λ i. with_groups role (count i) rest (shown i))
    ∙ sym (ap (λ gs. with_groups role n gs env) (groups_from groups place g h is))
    ∙ so_far

-- which is some of the work
pub group_worked : (env inner : Environment ℕ) (groups : List Group) (place : ℕ) (g : Group) (body : Environment ℕ → ℕ) (all : ℕ) → place < length groups → g ≡ get_or groups place g
    → inner ≡ with_ones (map word g.names.items.items) env
    → groups_work env (groups_of (map group_of (drop place groups))) body ≤ all
    → groups_work inner (groups_of (map group_of (drop (place + 1) groups))) body ≤ all
group_worked env inner groups place g body all h is shown so_far =
    let rest = groups_of (map group_of (drop (place + 1) groups)) in
    omega (arith, ap (λ gs. groups_work env gs body) (groups_from groups place g h is), ap (λ e. groups_work e rest body) shown, so_far)

-- one more name is visible
pub name_visible : (role : Role) (env inner all : Environment Denotation) (n next : ℕ) (names : List Name) (place : ℕ) (name : Name) → place < length names → name ≡ get_or names place name
    → inner ≡ with_name (word name).text (variable role n) env → next ≡ n + 1
    → with_variables role n (map word (drop place names)) env ≡ all
    → with_variables role next (map word (drop (place + 1) names)) inner ≡ all
name_visible role env inner all n next names place name h is shown moved so_far =
    let count : next ≡ suc n = omega arith in
    (λ i. with_variables role (count i) (map word (drop (place + 1) names)) (shown i))
    ∙ sym (ap (λ ws. with_variables role n ws env) (words_from names place name h is))
    ∙ so_far

pub name_worked : (env inner all : Environment ℕ) (names : List Name) (place : ℕ) (name : Name) → place < length names → name ≡ get_or names place name
    → inner ≡ with_name (word name).text (parameter 1) env
    → with_ones (map word (drop place names)) env ≡ all
    → with_ones (map word (drop (place + 1) names)) inner ≡ all
name_worked env inner all names place name h is shown so_far =
    ap (with_ones (map word (drop (place + 1) names))) shown
    ∙ sym (ap (λ ws. with_ones ws env) (words_from names place name h is))
    ∙ so_far

-- its variables are counted
pub group_counted : (first n next : ℕ) (old new : List Tree) (f : Word → Declared) (names : List Name) → map declared new ≡ map declared old ++ map f (map word names) → n ≡ first + length old → next ≡ n + length names → next ≡ first + length new
group_counted first n next old new f names made so_far moved =
    omega (arith, ap length made, length-map new declared, length-append (map declared old) (map f (map word names)), length-map old declared, length-map (map word names) f, length-map names word)

-- behind the last group there is none
pub none_left : (groups : List Group) (place : ℕ) → length groups ≤ place → groups_of (map group_of (drop place groups)) ≡ s.no_groups
none_left groups place h = ap (λ gs. groups_of (map group_of gs)) (drop_all place groups h)

-- at the end all groups are declared
pub all_declared : (role : Role) (env outer : Environment Denotation) (n first : ℕ) (groups : List Group) (place : ℕ) (written : Groupings) (ds : List Declared) → length groups ≤ place → groups_of (map group_of groups) ≡ written
    → ds ++ groups_variables role n env (groups_of (map group_of (drop place groups))) ≡ groups_variables role first outer (groups_of (map group_of groups)) → ds ≡ groups_variables role first outer written
all_declared role env outer n first groups place written ds h whole so_far =
    sym (append-nil ds) ∙ sym (ap (λ gs. ds ++ groups_variables role n env gs) (none_left groups place h)) ∙ so_far ∙ ap (groups_variables role first outer) whole

-- and visible
pub all_visible : (role : Role) (env outer : Environment Denotation) (n first : ℕ) (groups : List Group) (place : ℕ) (written : Groupings) → length groups ≤ place → groups_of (map group_of groups) ≡ written
    → with_groups role n (groups_of (map group_of (drop place groups))) env ≡ with_groups role first (groups_of (map group_of groups)) outer → env ≡ with_groups role first written outer
all_visible role env outer n first groups place written h whole so_far =
    sym (ap (λ gs. with_groups role n gs env) (none_left groups place h)) ∙ so_far ∙ ap (λ gs. with_groups role first gs outer) whole

-- and what is left is some of the work
pub all_worked : (env outer : Environment ℕ) (groups : List Group) (place : ℕ) (written : Groupings) (body : Environment ℕ → ℕ) → length groups ≤ place → groups_of (map group_of groups) ≡ written
    → groups_work env (groups_of (map group_of (drop place groups))) body ≤ groups_work outer (groups_of (map group_of groups)) body → body env ≤ groups_work outer written body
all_worked env outer groups place written body h whole so_far =
    omega (arith, ap (λ gs. groups_work env gs body) (none_left groups place h), so_far, ap (λ gs. groups_work outer gs body) whole)
