-- All that is said of the fields of a block.
use Rattle.std.proofs.Common.{◌≡◌, ◌∙◌, ℕ, ◌+◌, ◌==◌, Bool, true, false, not, ◌&&◌, ◌||◌, cond, List, [], ◌∷◌, map, filter, flat_map, Some, slice_get, refl, sym, ap, subst, arith}
use Rattle.std.specs.Prelude.{count_by}
use Rattle.std.specs.List.{AllByRecursion, enumerate_from, list_any}
use Rattle.std.proofs.lemmas.Bool.{and_right}
use Rattle.rdl_tree.specs.declared.item.Source.{Source}
use Rattle.rdl_tree.specs.declared.node.Elab.{Elab}
use Rattle.rdl_values.specs.Elaborated.{nodes_of, top_name}
use Rattle.rdl_values.specs.Instances.{Instance}
use Rattle.rdl_values.specs.Lineages.{Lineage, lineages_of, nodes_in}
use Rattle.rdl_values.specs.Verdict.{IsListOf}
use Rattle.rdl_nodes.proofs.Lineages.{all_nodes}
use Rattle.rdl_layers.specs.Fields.{fields_of, has_on_read, is_alias, is_once, is_touched, views, writes}
use Rattle.rdl_nodes.proofs.Members.{each-in, get-within, place-in}
use Rattle.rb_model.specs.declared.block.Block.{Block}
use Rattle.rb_model.specs.declared.block.Field.{Field}
use Rattle.rb_model.specs.declared.block.Reg.{Reg}
use Rattle.rb_model.specs.declared.block.Signal.{Signal}
use Rattle.rb_model.specs.declared.block.View.{View}
use Rattle.rb_model.specs.References.{Each, WithSome}
use Rattle.rb_model.specs.SoundField.{FieldIsSound, FieldIsSoundIn, RefersWell, changes, class_of, is_changed}
use Rattle.rb_model.proofs.Eachs.{Each-at, Each-numbered_all}
use Rattle.rdl_rules.specs.Answers.{meaning_fails}
use Rattle.rdl_rules.specs.Block.{IsBlockOf}
use Rattle.rdl_rules.specs.Fields as rules
use Rattle.rdl_rules.specs.Fields.{field_of, view_of}
use Rattle.rdl_rules.specs.Numbers.{Numbered, all_fields, number_of, registers}
use Rattle.rdl_sound_laws.specs.Faultless.{IsFaultless}
use Rattle.rdl_sound_laws.specs.Fielded.{HavePrimaries}
use Rattle.rdl_block_laws.proofs.FieldPlaces.{IsOf, of-place}
use Rattle.rdl_block_laws.proofs.Classes.{changing, same-class}
use Rattle.rdl_block_laws.proofs.Counted.{count-map, count-none, number-at, one-at}
use Rattle.rdl_block_laws.proofs.Names.{own-apart}
use Rattle.rdl_block_laws.proofs.Viewed.{over-views, own-view}
use Rattle.plain_lemmas.proofs.Lists.{count_by-append as count-join}

-- The views that are no alias's.

module _ (e : Elab) (k : ℕ) where
  abbrev is_own : View → Bool
  is_own v = v.field == k && not v.alias

  abbrev is_numbered : Instance → Bool
  is_numbered n = number_of n (all_fields (nodes_of e)) == k

  none-of-alias : (r : Instance) → is_alias r ≡ true → (v : Instance) → is_own (view_of (lineages_of e) r v) ≡ false
  none-of-alias r alias v = and_right ((view_of (lineages_of e) r v).field == k) (not (is_alias r)) (ap not alias)

  and-yes : (b : Bool) → (b && true) ≡ b
  and-yes true = refl
  and-yes false = refl

  as-numbered : (r : Instance) → is_alias r ≡ false → (v : Instance) → is_own (view_of (lineages_of e) r v) ≡ is_numbered v
  as-numbered r own v = (λ i. own-view e r v own i == k && not (own i)) ∙ and-yes (is_numbered v)

  own-views : (rs : List Instance) → count_by is_own (flat_map (λ r. map (view_of (lineages_of e) r) (fields_of r)) rs) ≡ count_by is_numbered (flat_map fields_of (filter (λ r. not (is_alias r)) rs))
  own-views [] = refl
  own-views (r ∷ rs) = count-join is_own (map (view_of (lineages_of e) r) (fields_of r)) (flat_map (λ x. map (view_of (lineages_of e) x) (fields_of x)) rs) ∙ go (is_alias r) refl (own-views rs)
    where
      no-more : (a b c : ℕ) → a ≡ 0 → b ≡ c → a + b ≡ c
      no-more a b c p q = omega (arith, p, q)

      go : (t : Bool) → is_alias r ≡ t → count_by is_own (flat_map (λ x. map (view_of (lineages_of e) x) (fields_of x)) rs) ≡ count_by is_numbered (flat_map fields_of (filter (λ x. not (is_alias x)) rs)) → count_by is_own (map (view_of (lineages_of e) r) (fields_of r)) + count_by is_own (flat_map (λ x. map (view_of (lineages_of e) x) (fields_of x)) rs)
          ≡ count_by is_numbered (flat_map fields_of (cond (not t) (r ∷ filter (λ x. not (is_alias x)) rs) (filter (λ x. not (is_alias x)) rs)))
      go true alias rest = no-more _ _ _ (count-none is_own (view_of (lineages_of e) r) (fields_of r) (none-of-alias r alias)) rest
      go false own rest = (λ i. count-map is_own is_numbered (view_of (lineages_of e) r) (fields_of r) (as-numbered r own) i + rest i) ∙ sym (count-join is_numbered (fields_of r) (flat_map fields_of (filter (λ x. not (is_alias x)) rs)))

  pub one-own : (waits : ℕ) (b : Block) → IsBlockOf (Some (top_name e)) e.source.now waits b → (n : Instance) → slice_get (all_fields (nodes_of e)) k ≡ Some n → count_by (λ v. v.field == k && not v.alias) b.views ≡ 1
  one-own waits b block n at =
      ap (count_by is_own) block.views_
      ∙ (own-views (registers (nodes_in (lineages_of e)))
      ∙ (ap (λ ns. count_by is_numbered (flat_map fields_of (filter (λ r. not (is_alias r)) (registers ns)))) (all_nodes (Some (top_name e)) e.source.now)
      ∙ one-at is_numbered k (all_fields (nodes_of e)) (λ j x here. ap (λ m. m == k) (number-at (all_fields (nodes_of e)) (own-apart e) j x here)) (get-within (all_fields (nodes_of e)) k n at)))

-- Each field.

module _ (e : Elab) (none : IsListOf (meaning_fails e) []) (waits : ℕ) (b : Block) (block : IsBlockOf (Some (top_name e)) e.source.now waits b) (mates : HavePrimaries (nodes_of e)) (good : AllByRecursion (IsFaultless (lineages_of e)) (all_fields (nodes_of e))) where
  module _ (k : ℕ) (f : Field) (o : IsOf (Some (top_name e)) e.source.now k f) where
    own_views : views (nodes_in (lineages_of e)) o.above.register.node o.node ≡ views (nodes_of e) o.above.register.node o.node
    own_views = ap (λ ns. views ns o.above.register.node o.node) (all_nodes (Some (top_name e)) e.source.now)

    faultless : IsFaultless (lineages_of e) o.node
    faultless = each-in (IsFaultless (lineages_of e)) (all_fields (nodes_of e)) o.node good (place-in (all_fields (nodes_of e)) k o.node o.here)

    touched : is_changed b k ≡ is_touched (views (nodes_of e) o.above.register.node o.node)
    touched = over-views e waits b none block mates k f o changes (λ v. writes v || has_on_read v) (λ r v. changing v)

    class-is : (field_of e.source.now (lineages_of e) o.above o.node).class ≡ class_of b k (field_of e.source.now (lineages_of e) o.above o.node)
    class-is =
        ap (λ vs. rules.class_of vs o.node) own_views
        ∙ sym (same-class e.source.now (lineages_of e) o.above o.node faultless.leads (views (nodes_of e) o.above.register.node o.node) (is_changed b k) touched)

    once-is : (field_of e.source.now (lineages_of e) o.above o.node).once ≡ list_any (λ v. v.field == k && v.once) b.views
    once-is = ap (list_any is_once) own_views ∙ sym (over-views e waits b none block mates k f o (λ v. v.once) is_once (λ r v. refl))

  module _ (alone : (s : Source) (all : List Lineage) (r : Numbered Lineage) (n : Instance) → IsFaultless all n → FieldIsSound (field_of s all r n)) (refer : Each (RefersWell b) b.fields) (registered : Each (λ f. (r : Reg) × (slice_get b.regs f.reg ≡ Some r) × (r.alias ≡ false)) b.fields)
      (reset : Each (λ f. WithSome f.reset_by.signal (λ s. (g : Signal) × (slice_get b.signals s ≡ Some g) × (g.width ≡ 1))) b.fields) where
    sound-at : (k : ℕ) (f : Field) → slice_get b.fields k ≡ Some f → FieldIsSoundIn b (k, f)
    sound-at k f at =
        let o = of-place (Some (top_name e)) e.source.now waits b block k f at in
        record {
          alone = subst FieldIsSound o.is (alone e.source.now (lineages_of e) o.above o.node (faultless k f o));
          refers = Each-at (RefersWell b) b.fields k f refer at;
          in_register = Each-at (λ (x : Field). (r : Reg) × (slice_get b.regs x.reg ≡ Some r) × (r.alias ≡ false)) b.fields k f registered at;
          reset_signal = Each-at (λ (x : Field). WithSome x.reset_by.signal (λ s. (g : Signal) × (slice_get b.signals s ≡ Some g) × (g.width ≡ 1))) b.fields k f reset at;
          one_view = one-own e k waits b block o.node o.here;
          class = subst (λ (x : Field). x.class ≡ class_of b k x) o.is (class-is k f o);
          once = subst (λ (x : Field). x.once ≡ list_any (λ v. v.field == k && v.once) b.views) o.is (once-is k f o);
        }

    pub all-sound : Each (FieldIsSoundIn b) (enumerate_from 0 b.fields)
    all-sound = Each-numbered_all (FieldIsSoundIn b) b.fields sound-at
