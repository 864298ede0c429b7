-- All that applies to a node is looked up in its body, in those above it, or at the root.
use Rattle.std.proofs.Common.{◌≡◌, ◌∙◌, ℕ, zero, suc, ◌+◌, length, inl, inr, Bool, true, false, not, ◌&&◌, cond, is_some, List, [], ◌∷◌, ◌++◌, map, flat_map, filter, find, Option, None, Some, option_to_list, refl, sym, ap, subst, append_assoc}
use Rattle.std.specs.List.{AllByRecursion}
use Rattle.plain_lemmas.proofs.Lists.{each-append, each-both as all-both, each-filter, each-flat as split, each-flat_map, each-imp}
use Rattle.rdl_base.specs.declared.fault.Fault.{Fault}
use Rattle.rdl_tree.specs.declared.item.Item.{Item}
use Rattle.rdl_tree.specs.declared.item.Source.{Source}
use Rattle.rdl_props.specs.declared.prop.Prop.{Prop}
use Rattle.rdl_props.specs.declared.prop.Prop.TheVariants as prop
use Rattle.rdl_props.specs.Same.{same_prop}
use Rattle.rdl_props.specs.Table.{Default, default_of, group_of}
use Rattle.rdl_props.specs.Table as table
use Rattle.rdl_values.specs.Bodies.{Body, Layer, Scope, around, scope_at, standing, standing_from}
use Rattle.rdl_values.specs.Given.{IsGivenBy}
use Rattle.rdl_values.specs.Instances.{Instance, body, children, given_by, most_names, nodes, root, seen_in, signals, top_of, with_below}
use Rattle.rdl_values.specs.Parts.{is_empty}
use Rattle.rdl_values.specs.Scopes.{AreScopesIn, IsAmong, IsFront}
use Rattle.rdl_values.specs.Top.{top_seen, top_use_of}
use Rattle.rdl_values.specs.Uses.{Seen, Use, parent_of, seen, uses}
use Rattle.rdl_values.specs.Values.{number_of}
use Rattle.rdl_values.specs.Views as view
use Rattle.rdl_values.specs.Views.{ItemIs, item_is}
use Rattle.rdl_values.proofs.Given.{each-map, given-all}
use Rattle.rdl_layers.specs.declared.rank.Rank.TheVariants as rank
use Rattle.rdl_layers.specs.Assignments.{Nested, default_in, defaults_before, dynamic_in, dynamics, is_among, local_in, locals, targets}
use Rattle.rdl_layers.specs.Forms.{Meaning, unset}
use Rattle.rdl_layers.specs.Judged.{anywhere, failures_of, failures_of_dynamic, legal_on, sound}
use Rattle.rdl_layers.specs.Settings.{Applied, applied, applied_to, deciding_of, from_above, from_body, from_defaults, from_instance, given, gives, is_false, meaning_of_default, setting, setting_or, settled, settled_if}
use Rattle.rdl_layers.proofs.Formed.{each-all}
use Rattle.rdl_layers.specs.Scoped.{IsScoped, IsWithin}
use Rattle.rdl_layers.proofs.Given.{HasScope, gives-scoped}

-- Fronts of bodies.

abbrev Fronts : List Item → List (List Item × Item) → Type 0
Fronts all is = AllByRecursion (λ i. IsFront i.0 all) is

fronts-from : (all before is : List Item) → before ++ is ≡ all → Fronts all (standing_from before is)
fronts-from all before [] e = tt
fronts-from all before (i ∷ is) e = ((i ∷ is, e), fronts-from all (before ++ (i ∷ [])) is (append_assoc before (i ∷ []) is ∙ e))

further-front : (a b c : List Item) → IsFront a b → IsFront b c → IsFront a c
further-front a b c f g = (f.0 ++ g.0, sym (append_assoc a f.0 g.0) ∙ ap (λ xs. xs ++ g.0) f.1 ∙ g.1)

standing-each : {X : Type 0} (P : X → Type 0) (before xs : List X) → AllByRecursion P xs → AllByRecursion (λ x. P x.1) (standing_from before xs)
standing-each P before [] h = tt
standing-each P before (x ∷ xs) h = (h.0, standing-each P (before ++ (x ∷ [])) xs h.1)

sound-each : {X : Type 0} (P : X → Type 0) (f : List X × X → List Fault) (xs : List X) → AllByRecursion P xs → AllByRecursion P (sound f xs)
sound-each {X = X} P f xs h = taken (filter (λ x. is_empty (f x)) (standing xs)) (each-filter (λ x. P x.1) (λ x. is_empty (f x)) (standing xs) (standing-each P [] xs h))
  where
    taken : (ys : List (List X × X)) → AllByRecursion (λ x. P x.1) ys → AllByRecursion P (map (λ x. x.1) ys)
    taken [] g = tt
    taken (y ∷ ys) g = (g.0, taken ys g.1)

-- The assignments of a body.

module _ (bs : List Body) (b : Body) (among : IsAmong bs b) (outer : AreScopesIn bs b.outer) where
  here : (before : List Item) → IsFront before b.items → IsWithin bs (scope_at b before)
  here before front = ((λ e. cc e), (record { body = b; among = among; front = front; same = refl }, outer))

  locals-within : AllByRecursion (λ a. IsWithin bs a.scope) (locals b)
  locals-within = each-flat_map (λ a. IsWithin bs a.scope) (local_in b) (standing b.items) (each-imp (λ i. IsFront i.0 b.items) (λ i. AllByRecursion (λ a. IsWithin bs a.scope) (local_in b i)) (standing b.items) of (fronts-from b.items [] b.items refl))
    where
      of : (i : List Item × Item) → IsFront i.0 b.items → AllByRecursion (λ a. IsWithin bs a.scope) (local_in b i)
      of i f = go (item_is i.1) refl
        where
          go : (v : ItemIs) → item_is i.1 ≡ v → AllByRecursion (λ a. IsWithin bs a.scope) (local_in b i)
          go (view.local s) e = rw e (here i.0 f, tt)
          go (view.definition d) e = rw e tt
          go (view.made alias of is) e = rw e tt
          go (view.enumeration n es) e = rw e tt
          go (view.default_ s) e = rw e tt
          go (view.dynamic t s) e = rw e tt

  dynamics-within : AllByRecursion (λ d. IsWithin bs d.assigns.scope) (dynamics b)
  dynamics-within = each-flat_map (λ d. IsWithin bs d.assigns.scope) (dynamic_in b) (standing b.items) (each-imp (λ i. IsFront i.0 b.items) (λ i. AllByRecursion (λ d. IsWithin bs d.assigns.scope) (dynamic_in b i)) (standing b.items) of (fronts-from b.items [] b.items refl))
    where
      of : (i : List Item × Item) → IsFront i.0 b.items → AllByRecursion (λ d. IsWithin bs d.assigns.scope) (dynamic_in b i)
      of i f = go (item_is i.1) refl
        where
          go : (v : ItemIs) → item_is i.1 ≡ v → AllByRecursion (λ d. IsWithin bs d.assigns.scope) (dynamic_in b i)
          go (view.dynamic t s) e = rw e (here i.0 f, tt)
          go (view.definition d) e = rw e tt
          go (view.made alias of is) e = rw e tt
          go (view.enumeration n es) e = rw e tt
          go (view.default_ s) e = rw e tt
          go (view.local s) e = rw e tt

defaults-within : (bs : List Body) (l : Layer) (outer : Scope) → AreScopesIn bs (l ∷ outer) → AllByRecursion (λ a. IsWithin bs a.scope) (defaults_before l outer)
defaults-within bs l outer h = each-flat_map (λ a. IsWithin bs a.scope) (default_in l outer) (standing l.before) (each-imp (λ i. IsFront i.0 l.before) (λ i. AllByRecursion (λ a. IsWithin bs a.scope) (default_in l outer i)) (standing l.before) of (fronts-from l.before [] l.before refl))
  where
    cut : List Item → Scope → Scope
    cut before [] = []
    cut before (k ∷ ks) = record k { before = before } ∷ ks

    there : (i : List Item × Item) → IsFront i.0 l.before → IsWithin bs (record l { before = i.0 } ∷ outer)
    there i f = ((λ e. cc e), (record { body = h.0.body; among = h.0.among; front = further-front i.0 l.before h.0.body.items f h.0.front; same = ap (cut i.0) h.0.same }, h.1))

    of : (i : List Item × Item) → IsFront i.0 l.before → AllByRecursion (λ a. IsWithin bs a.scope) (default_in l outer i)
    of i f = go (item_is i.1) refl
      where
        go : (v : ItemIs) → item_is i.1 ≡ v → AllByRecursion (λ a. IsWithin bs a.scope) (default_in l outer i)
        go (view.default_ s) e = rw e (there i f, tt)
        go (view.definition d) e = rw e tt
        go (view.made alias of is) e = rw e tt
        go (view.enumeration n es) e = rw e tt
        go (view.local s) e = rw e tt
        go (view.dynamic t s) e = rw e tt

-- All that applies.

module _ (bs : List Body) (n : Instance) (own : IsAmong bs (body n)) (above : AllByRecursion (λ b. IsAmong bs b × AreScopesIn bs b.outer) n.above) (outer : AreScopesIn bs n.closure.scope) where
  above-scoped : AllByRecursion (HasScope bs) (flat_map (from_above n) (standing n.above))
  above-scoped = each-flat_map (HasScope bs) (from_above n) (standing n.above) (each-imp (λ b. IsAmong bs b.1 × AreScopesIn bs b.1.outer) (λ b. AllByRecursion (HasScope bs) (from_above n b)) (standing n.above) of (standing-each (λ b. IsAmong bs b × AreScopesIn bs b.outer) [] n.above above))
    where
      of : (b : Nested) → IsAmong bs b.1 × AreScopesIn bs b.1.outer → AllByRecursion (HasScope bs) (from_above n b)
      of b h = each-flat_map (HasScope bs) (λ d. gives (rank.Dynamic (length b.0)) d.assigns) (filter (λ d. is_among (targets b d) n) (sound (failures_of_dynamic b) (dynamics b.1)))
          (each-imp (λ d. IsWithin bs d.assigns.scope) (λ d. AllByRecursion (HasScope bs) (gives (rank.Dynamic (length b.0)) d.assigns)) (filter (λ d. is_among (targets b d) n) (sound (failures_of_dynamic b) (dynamics b.1))) (λ d w. gives-scoped bs (rank.Dynamic (length b.0)) d.assigns w)
          (each-filter (λ d. IsWithin bs d.assigns.scope) (λ d. is_among (targets b d) n) (sound (failures_of_dynamic b) (dynamics b.1)) (sound-each (λ d. IsWithin bs d.assigns.scope) (failures_of_dynamic b) (dynamics b.1) (dynamics-within bs b.1 h.0 h.1))))

  instance-scoped : AllByRecursion (HasScope bs) (from_instance n.use_)
  instance-scoped = each-all (HasScope bs) _ (option_to_list n.use_.form.reset) (λ e. each-map (HasScope bs) _ (given (number_of (around n.use_.scope) e)) (λ k. tt))

  body-scoped : AllByRecursion (HasScope bs) (from_body n)
  body-scoped = each-flat_map (HasScope bs) (gives rank.Body) (sound (failures_of (legal_on n)) (locals (body n)))
      (each-imp (λ a. IsWithin bs a.scope) (λ a. AllByRecursion (HasScope bs) (gives rank.Body a)) (sound (failures_of (legal_on n)) (locals (body n))) (λ a w. gives-scoped bs rank.Body a w)
      (sound-each (λ a. IsWithin bs a.scope) (failures_of (legal_on n)) (locals (body n)) (locals-within bs (body n) own outer)))

  defaults-scoped : (k : ℕ) (scope : Scope) → AreScopesIn bs scope → AllByRecursion (HasScope bs) (from_defaults n k scope)
  defaults-scoped k [] h = tt
  defaults-scoped k (l ∷ out) h =
      each-append (HasScope bs) (filter (λ a. legal_on n a.candidate.prop) (flat_map (gives (rank.Default k)) (sound (failures_of anywhere) (defaults_before l out)))) (from_defaults n (k + 1) out)
      (each-filter (HasScope bs) (λ a. legal_on n a.candidate.prop) (flat_map (gives (rank.Default k)) (sound (failures_of anywhere) (defaults_before l out)))
      (each-flat_map (HasScope bs) (gives (rank.Default k)) (sound (failures_of anywhere) (defaults_before l out))
      (each-imp (λ a. IsWithin bs a.scope) (λ a. AllByRecursion (HasScope bs) (gives (rank.Default k) a)) (sound (failures_of anywhere) (defaults_before l out)) (λ a w. gives-scoped bs (rank.Default k) a w)
      (sound-each (λ a. IsWithin bs a.scope) (failures_of anywhere) (defaults_before l out) (defaults-within bs l out h)))))
      (defaults-scoped (k + 1) out h.1)

  applied-scoped : AllByRecursion (HasScope bs) (applied_to n)
  applied-scoped =
      let two = each-append (HasScope bs) (flat_map (from_above n) (standing n.above)) (from_instance n.use_) above-scoped instance-scoped in
      let three = each-append (HasScope bs) (flat_map (from_above n) (standing n.above) ++ from_instance n.use_) (from_body n) two body-scoped in
      each-append (HasScope bs) (flat_map (from_above n) (standing n.above) ++ from_instance n.use_ ++ from_body n) (from_defaults n 0 n.closure.scope) three (defaults-scoped 0 n.closure.scope outer)

-- Settings.

default-scoped : (bs : List Body) (d : Default) → IsScoped bs (meaning_of_default d)
default-scoped bs table.unset = tt
default-scoped bs (table.flag b) = tt
default-scoped bs (table.number n) = tt
default-scoped bs (table.named w) = tt
default-scoped bs (table.hard b) = tt

found-scoped : (bs : List Body) (f : Applied → Bool) (xs : List Applied) (a : Applied) → AllByRecursion (HasScope bs) xs → find f xs ≡ Some a → HasScope bs a
found-scoped bs f [] a h e = cc
found-scoped bs f (x ∷ xs) a h e = go (f x) refl (found-scoped bs f xs a h.1)
  where
    Here : Option Applied → Type 0
    Here None = Unit {0}
    Here (Some y) = HasScope bs y

    go : (b : Bool) → f x ≡ b → (find f xs ≡ Some a → HasScope bs a) → HasScope bs a
    go true q rest = let here : Some x ≡ Some a = sym (rw q refl) ∙ e in subst Here here h.0
    go false q rest = let later : find f xs ≡ Some a = sym (rw q refl) ∙ e in rest later

settled-scoped : (bs : List Body) (p : Prop) (a : Applied) → HasScope bs a → IsScoped bs (settled p a)
settled-scoped bs p a h = go (same_prop p a.candidate.prop && not (is_some (group_of p) && is_false a.value))
  where
    go : (t : Bool) → IsScoped bs (cond t a.value unset)
    go true = h
    go false = tt

setting-or-scoped : (bs : List Body) (default : Meaning) (n : Instance) (p : Prop) → AllByRecursion (HasScope bs) (applied_to n) → IsScoped bs default → IsScoped bs (setting_or default n p)
setting-or-scoped bs default n p h d = go (deciding_of p all) refl
  where
    all : List Applied
    all = applied_to n ++ (applied rank.Table p default ∷ [])

    each : AllByRecursion (HasScope bs) all
    each = each-append (HasScope bs) (applied_to n) (applied rank.Table p default ∷ []) h (d, tt)

    go : (o : Option Applied) → deciding_of p all ≡ o → IsScoped bs (settled_if p o)
    go None e = tt
    go (Some a) e = settled-scoped bs p a (found-scoped bs _ all a each e)

setting-scoped : (bs : List Body) (n : Instance) (p : Prop) → AllByRecursion (HasScope bs) (applied_to n) → IsScoped bs (setting n p)
unfolding setting
setting-scoped bs n prop.Accesswidth h = setting-or-scoped bs (setting_or (meaning_of_default (default_of prop.Regwidth)) n prop.Regwidth) n prop.Accesswidth h (setting-or-scoped bs (meaning_of_default (default_of prop.Regwidth)) n prop.Regwidth h (default-scoped bs (default_of prop.Regwidth)))
setting-scoped bs n p h = setting-or-scoped bs (meaning_of_default (default_of p)) n p h (default-scoped bs (default_of p))

-- Nodes: the bodies round those above a node are among those round it.

more-bodies : (bs cs : List Body) (scope : Scope) → AreScopesIn bs scope → AreScopesIn (bs ++ cs) scope
more-bodies bs cs [] h = tt
more-bodies bs cs (l ∷ outer) h = (record { body = h.0.body; among = among-left bs h.0.body h.0.among; front = h.0.front; same = h.0.same }, more-bodies bs cs outer h.1)
  where
    among-left : (bs : List Body) (b : Body) → IsAmong bs b → IsAmong (bs ++ cs) b
    among-left (c ∷ bs) b (inl e) = inl e
    among-left (c ∷ bs) b (inr h) = inr (among-left bs b h)
    among-left [] b h = absurd h

among-last : (bs : List Body) (b : Body) → IsAmong (bs ++ (b ∷ [])) b
among-last [] b = inl refl
among-last (c ∷ bs) b = inr (among-last bs b)

-- each of a list is among it with more before and behind
each-among : (before bs after : List Body) → AllByRecursion (λ b. IsAmong (before ++ (bs ++ after)) b) bs
each-among before [] after = tt
each-among before (b ∷ bs) after = (there before, subst (λ cs. AllByRecursion (λ c. IsAmong cs c) bs) (append_assoc before (b ∷ []) (bs ++ after)) (each-among (before ++ (b ∷ [])) bs after))
  where
    there : (cs : List Body) → IsAmong (cs ++ (b ∷ bs ++ after)) b
    there [] = inl refl
    there (c ∷ cs) = inr (there cs)

abbrev IsAround : Source → Instance → Type 0
IsAround s n = AreScopesIn (root s ∷ n.above) n.closure.scope

abbrev IsUnder : Source → Instance → Type 0
IsUnder s n = AllByRecursion (λ b. AreScopesIn (root s ∷ n.above) b.outer) n.above

-- what is known of a node of its children's list
abbrev pub IsInBody : Instance → Instance → Type 0
IsInBody n c = c.above ≡ n.above ++ (body n ∷ [])

in-body : (n : Instance) → AllByRecursion (IsInBody n) (children n)
in-body n = each-flat_map (IsInBody n) given_by (seen_in n)
    (each-map (λ s. AllByRecursion (IsInBody n) (given_by s)) (λ u. record { parent = parent_of (body n); above = n.above ++ (body n ∷ []); earlier = u.0; use_ = u.1 }) (standing (uses (body n))) of)
  where
    of : (u : List Use × Use) → AllByRecursion (IsInBody n) (given_by (record { parent = parent_of (body n); above = n.above ++ (body n ∷ []); earlier = u.0; use_ = u.1 }))
    of u = let s : Seen = record { parent = parent_of (body n); above = n.above ++ (body n ∷ []); earlier = u.0; use_ = u.1 } in each-imp (IsGivenBy s) (IsInBody n) (given_by s) (λ c g. g.above_is) (given-all s)

child-under : (s : Source) (n c : Instance) → IsAround s n → IsUnder s n → IsInBody n c → IsUnder s c
child-under s n c around under e =
    let all = each-append (λ b. AreScopesIn (root s ∷ n.above ++ (body n ∷ [])) b.outer) n.above (body n ∷ [])
    (each-imp (λ b. AreScopesIn (root s ∷ n.above) b.outer) (λ b. AreScopesIn (root s ∷ n.above ++ (body n ∷ [])) b.outer) n.above (λ b h. more-bodies (root s ∷ n.above) (body n ∷ []) b.outer h) under)
    (more-bodies (root s ∷ n.above) (body n ∷ []) n.closure.scope around, tt) in
    subst (λ up. AllByRecursion (λ b. AreScopesIn (root s ∷ up) b.outer) up) (sym e) all

below-under : (s : Source) (k : ℕ) (n : Instance) → IsUnder s n → AllByRecursion (IsAround s) (with_below k n) → AllByRecursion (IsUnder s) (with_below k n)
below-under s zero n under h = (under, tt)
below-under s (suc k) n under h = (
  under,
  each-flat_map (IsUnder s) (with_below k) (children n)
      (all-both (IsInBody n) (λ c. AllByRecursion (IsAround s) (with_below k c)) (λ c. AllByRecursion (IsUnder s) (with_below k c)) (children n) (λ c e g. below-under s k c (child-under s n c h.0 under e) g) (in-body n) (split (IsAround s) (with_below k) (children n) h.1)),
)

-- nothing stands above the signals at the root, and above the top
none-above : (s : Source) (n : Instance) → n.above ≡ [] → IsUnder s n
none-above s n e = subst (λ up. AllByRecursion (λ b. AreScopesIn (root s ∷ up) b.outer) up) (sym e) tt

signals-under : (s : Source) → AllByRecursion (IsUnder s) (signals s)
signals-under s = each-flat_map (IsUnder s) given_by (seen [] (root s))
    (each-map (λ u. AllByRecursion (IsUnder s) (given_by u)) (λ u. record { parent = parent_of (root s); above = []; earlier = u.0; use_ = u.1 }) (standing (uses (root s))) of)
  where
    of : (u : List Use × Use) → AllByRecursion (IsUnder s) (given_by (record { parent = parent_of (root s); above = []; earlier = u.0; use_ = u.1 }))
    of u = let by : Seen = record { parent = parent_of (root s); above = []; earlier = u.0; use_ = u.1 } in each-imp (IsGivenBy by) (IsUnder s) (given_by by) (λ c g. none-above s c g.above_is) (given-all by)

tops-under : (wanted : Option (List ℕ)) (s : Source) → AllByRecursion (IsUnder s) (top_of wanted s)
tops-under wanted s = each-flat_map (IsUnder s) _ (option_to_list (top_use_of wanted s)) (all (top_use_of wanted s))
  where
    all : (o : Option Use) → AllByRecursion (λ u. AllByRecursion (IsUnder s) (given_by (top_seen u))) (option_to_list o)
    all None = tt
    all (Some u) = (each-imp (IsGivenBy (top_seen u)) (IsUnder s) (given_by (top_seen u)) (λ n g. none-above s n g.above_is) (given-all (top_seen u)), tt)

nodes-under : (wanted : Option (List ℕ)) (s : Source) → AllByRecursion (IsAround s) (nodes wanted s) → AllByRecursion (IsUnder s) (nodes wanted s)
unfolding nodes
nodes-under wanted s h = each-append (IsUnder s) (signals s) (flat_map (with_below most_names) (top_of wanted s)) (signals-under s)
    (each-flat_map (IsUnder s) (with_below most_names) (top_of wanted s) (all-both (IsUnder s) (λ n. AllByRecursion (IsAround s) (with_below most_names n)) (λ n. AllByRecursion (IsUnder s) (with_below most_names n)) (top_of wanted s) (λ n u g. below-under s most_names n u g) (tops-under wanted s) (split (IsAround s) (with_below most_names) (top_of wanted s) (tops-part (signals s) h))))
  where
    tops-part : (xs : List Instance) → AllByRecursion (IsAround s) (xs ++ flat_map (with_below most_names) (top_of wanted s)) → AllByRecursion (IsAround s) (flat_map (with_below most_names) (top_of wanted s))
    tops-part [] g = g
    tops-part (x ∷ xs) g = tops-part xs g.1

node-scoped : (s : Source) (n : Instance) → IsAround s n → IsUnder s n → (p : Prop) → IsScoped (root s ∷ n.above ++ (body n ∷ [])) (setting n p)
node-scoped s n around under p =
    let bs : List Body = root s ∷ n.above ++ (body n ∷ []) in
    let outer : AreScopesIn bs n.closure.scope = more-bodies (root s ∷ n.above) (body n ∷ []) n.closure.scope around in
    let above = all-both (λ b. IsAmong bs b) (λ b. AreScopesIn (root s ∷ n.above) b.outer) (λ b. IsAmong bs b × AreScopesIn bs b.outer) n.above (λ b i h. (i, more-bodies (root s ∷ n.above) (body n ∷ []) b.outer h)) (each-among (root s ∷ []) n.above (body n ∷ [])) under in
    setting-scoped bs n p (applied-scoped bs n (among-last (root s ∷ n.above) (body n)) above outer)

pub all-scoped : (wanted : Option (List ℕ)) (s : Source) → AllByRecursion (IsAround s) (nodes wanted s) → AllByRecursion (λ n. (p : Prop) → IsScoped (root s ∷ n.above ++ (body n ∷ [])) (setting n p)) (nodes wanted s)
all-scoped wanted s h = all-both (IsAround s) (IsUnder s) _ (nodes wanted s) (node-scoped s) h (nodes-under wanted s h)
