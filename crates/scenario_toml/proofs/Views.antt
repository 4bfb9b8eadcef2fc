-- A table's lists and members, as the code walks them and as the definitions see them.
use Rattle.std.proofs.Common.{◌≡◌, ℕ, List, [], ◌∷◌, Bool, ◌&&◌, map, Option, Some, None, String, Global, is_some}
use Rattle.std.proofs.Common.{string_bytes, true, false, filter_map, option_to_list, drop, get_or, length, ◌+◌, ◌<◌}
use Rattle.std.proofs.Common.{◌++◌, append_assoc, refl, sym, ap, ◌∙◌}
use Rattle.std.specs.List.{list_all, list_any}
use Rattle.std.proofs.lemmas.List.{drop_more}
use Rattle.std.proofs.lemmas.Option.{same_Some}
use Rattle.toml.specs.Data.{Data, string, integer, float, boolean, datetime, array, table, Items, Members, as_array, as_str, as_table}
use Rattle.toml.specs.View.{view, items_of, items_view, members_view}
use Rattle.toml.specs.declared.value.Value.{Value}
use Rattle.scenario_toml.specs.Values.{TheTableKey, are_known, has_required_keys, has_keys, has_value_type, is_for, list_items, list_of}
use Rattle.scenario_toml.specs.declared.key.ValueType.TheVariants as shape

pub list_of-items : (ds : List Data) → list_of (items_of ds) ≡ ds
list_of-items [] = refl
list_of-items (d ∷ ds) = ap (λ xs. d ∷ xs) (list_of-items ds)

-- ---- lists

all_views : (p : Data → Bool) (vs : List Value) → list_all (λ v. p (view v)) vs ≡ list_all p (list_of (items_view vs))
all_views p [] = refl
all_views p (v ∷ vs) = ap (λ b. p (view v) && b) (all_views p vs)

texts_in : (d : Data) (ds : Items) → Some ds ≡ as_array d → list_all (λ x. is_some (as_str x)) (list_of ds) ≡ has_value_type shape.Texts d
texts_in (array xs) ds e = ap (λ ys. list_all (λ x. is_some (as_str x)) (list_of ys)) (same_Some _ _ e)
texts_in (string s) ds e = absurd cc
texts_in (integer z) ds e = absurd cc
texts_in (float x) ds e = absurd cc
texts_in (boolean b) ds e = absurd cc
texts_in (datetime t) ds e = absurd cc
texts_in (table ms) ds e = absurd cc

tables_in : (d : Data) (ds : Items) → Some ds ≡ as_array d → list_all (λ x. is_some (as_table x)) (list_of ds) ≡ has_value_type shape.Tables d
tables_in (array xs) ds e = ap (λ ys. list_all (λ x. is_some (as_table x)) (list_of ys)) (same_Some _ _ e)
tables_in (string s) ds e = absurd cc
tables_in (integer z) ds e = absurd cc
tables_in (float x) ds e = absurd cc
tables_in (boolean b) ds e = absurd cc
tables_in (datetime t) ds e = absurd cc
tables_in (table ms) ds e = absurd cc

pub are_texts : (vs : List Value) (d : Data) (r : Bool) → r ≡ list_all (λ v. is_some (as_str (view v))) vs
    → Some (items_view vs) ≡ as_array d → r ≡ has_value_type shape.Texts d
are_texts vs d r is e = is ∙ all_views (λ x. is_some (as_str x)) vs ∙ texts_in d (items_view vs) e

pub are_tables : (vs : List Value) (d : Data) (r : Bool) → r ≡ list_all (λ v. is_some (as_table (view v))) vs
    → Some (items_view vs) ≡ as_array d → r ≡ has_value_type shape.Tables d
are_tables vs d r is e = is ∙ all_views (λ x. is_some (as_table x)) vs ∙ tables_in d (items_view vs) e

pub array_items : (vs : List Value) (d : Data) → Some (items_view vs) ≡ as_array d → map view vs ≡ list_items (Some d)
array_items vs (array xs) e = sym (list_of-items (map view vs)) ∙ ap list_of (same_Some _ _ e)
array_items vs (string s) e = absurd cc
array_items vs (integer z) e = absurd cc
array_items vs (float x) e = absurd cc
array_items vs (boolean b) e = absurd cc
array_items vs (datetime t) e = absurd cc
array_items vs (table ms) e = absurd cc

abbrev pub texts_of : List Value → List (List ℕ)
texts_of vs = filter_map as_str (map view vs)

abbrev pub tables_of : List Value → List Members
tables_of vs = filter_map as_table (map view vs)

one_more : {A : Type 0} (f : Data → Option A) (o : Option A) (ds : List Data) (d : Data) → f d ≡ o
    → filter_map f (d ∷ ds) ≡ option_to_list (f d) ++ filter_map f ds
one_more f None ds d e = rw e
one_more f (Some x) ds d e = rw e

said_more : {A : Type 0} (f : Data → Option A) (vs : List Value) (i : ℕ) (v : Value) (done new : List A) → i < length vs
    → new ≡ done ++ option_to_list (f (view (get_or vs i v))) → done ++ filter_map f (map view (drop i vs)) ≡ filter_map f (map view vs)
    → new ++ filter_map f (map view (drop (i + 1) vs)) ≡ filter_map f (map view vs)
said_more f vs i v done new within more so =
    let d = view (get_or vs i v) in
    let ds = map view (drop (i + 1) vs) in
    rw more (append_assoc done (option_to_list (f d)) (filter_map f ds)
    ∙ ap (λ xs. done ++ xs) (sym (one_more f (f d) ds d refl))
    ∙ ap (λ xs. done ++ filter_map f (map view xs)) (sym (drop_more vs i v within)) ∙ so)

pub texts_more : (vs : List Value) (i : ℕ) (v : Value) (done new : List (List ℕ)) → i < length vs
    → new ≡ done ++ option_to_list (as_str (view (get_or vs i v))) → done ++ texts_of (drop i vs) ≡ texts_of vs
    → new ++ texts_of (drop (i + 1) vs) ≡ texts_of vs
texts_more vs i v done new within more so = said_more as_str vs i v done new within more so

pub tables_more : (vs : List Value) (i : ℕ) (v : Value) (done new : List Members) → i < length vs
    → new ≡ done ++ option_to_list (as_table (view (get_or vs i v))) → done ++ tables_of (drop i vs) ≡ tables_of vs
    → new ++ tables_of (drop (i + 1) vs) ≡ tables_of vs
tables_more vs i v done new within more so = said_more as_table vs i v done new within more so

-- ---- members

pub known_members : (keys : List TheTableKey) (es : List (String Global × Value))
    → list_all (λ e. list_any (is_for (string_bytes e.0) (view e.1)) keys) es ≡ are_known keys (members_view es)
known_members keys [] = refl
known_members keys (e ∷ es) = ap (λ b. list_any (is_for (string_bytes e.0) (view e.1)) keys && b) (known_members keys es)

pub known_first : (keys : List TheTableKey) (es : List (String Global × Value)) (k t : Bool)
    → k ≡ list_all (λ e. list_any (is_for (string_bytes e.0) (view e.1)) keys) es → k ≡ true
    → t ≡ has_required_keys keys (members_view es) → t ≡ has_keys keys (members_view es)
known_first keys es k t is known there =
    there ∙ ap (λ x. x && has_required_keys keys (members_view es)) (sym known ∙ is ∙ known_members keys es)

pub unknown_first : (keys : List TheTableKey) (es : List (String Global × Value)) (k : Bool)
    → k ≡ list_all (λ e. list_any (is_for (string_bytes e.0) (view e.1)) keys) es → k ≡ false
    → k ≡ has_keys keys (members_view es)
unknown_first keys es k is unknown =
    unknown ∙ ap (λ x. x && has_required_keys keys (members_view es)) (sym unknown ∙ is ∙ known_members keys es)
