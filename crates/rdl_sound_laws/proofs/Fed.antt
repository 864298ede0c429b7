-- What a setting that is given feeds.
use Rattle.std.proofs.Common.{◌≡◌, Bool, true, false, ◌||◌, cond, List, [], ◌∷◌, ◌++◌, Option, None, Some, is_some, refl, subst, IsTrue}
use Rattle.rdl_base.specs.declared.fault.Fault.{Fault}
use Rattle.rdl_props.specs.Table.{takes_of}
use Rattle.rdl_props.specs.declared.form.Form.TheVariants as form
use Rattle.rdl_props.specs.declared.prop.Prop.{Prop}
use Rattle.rdl_values.specs.Faults.{when}
use Rattle.rdl_values.specs.Instances.{Instance}
use Rattle.rdl_values.specs.Lineages.{Lineage}
use Rattle.rdl_layers.specs.Fields.{has, is_given}
use Rattle.rdl_layers.specs.Formed.{IsOfForm}
use Rattle.rdl_layers.specs.Forms.{Meaning, unset, flag, number, text, named, intr, hard, enum_of, reference}
use Rattle.rdl_layers.specs.Settings.{setting}
use Rattle.rb_model.specs.declared.kinds.Feed.{Feed}
use Rattle.rb_model.specs.declared.kinds.Feed.TheVariants as feed
use Rattle.rb_model.specs.declared.kinds.Gate.TheVariants as gate
use Rattle.rb_model.specs.declared.kinds.RefItem.{RefItem}
use Rattle.rb_model.specs.Effects.{is_gated}
use Rattle.rb_model.specs.SoundField.{is_fed, is_gate_fed}
use Rattle.rdl_rules.specs.Feeds.{feed_at, gate_at, item_at}
use Rattle.rdl_sound_laws.specs.Faultless.{Leads}

-- Of two or more tests.

pub none-both : {A : Type 0} (xs ys : List A) → xs ++ ys ≡ [] → (xs ≡ []) × (ys ≡ [])
none-both [] ys e = (refl, e)
none-both (x ∷ xs) ys e = cc

pub when-none : (t : Bool) (f : Fault) → when t f ≡ [] → t ≡ false
when-none true f e = cc
when-none false f e = refl

-- Feeds.

-- what a setting and the item that it names feed
abbrev pub feed_of : Meaning → Option RefItem → Feed
feed_of (flag true) r = feed.Pin
feed_of m (Some r) = feed.Item r
feed_of m None = feed.Off

-- the setting is a reference only with an item
abbrev pub Named : Meaning → Option RefItem → Type 0
Named (reference path item scope place) o = is_some o ≡ true
Named _ o = Unit {0}

pub fed-item : (m : Meaning) (r : RefItem) → is_fed (feed_of m (Some r)) ≡ true
fed-item (flag true) r = refl
fed-item (flag false) r = refl
fed-item unset r = refl
fed-item (number n) r = refl
fed-item (text t) r = refl
fed-item (named w) r = refl
fed-item (intr e) r = refl
fed-item (hard b) r = refl
fed-item (enum_of n scope) r = refl
fed-item (reference path item scope place) r = refl

fed-given : (m : Meaning) (o : Option RefItem) → IsOfForm form.FlagRefer m → Named m o → is_given m ≡ true → is_fed (feed_of m o) ≡ true
fed-given m (Some r) h n g = fed-item m r
fed-given (flag true) None h n g = refl
fed-given (flag false) None h n g = cc
fed-given unset None h n g = cc
fed-given (reference path item scope place) None h n g = cc
fed-given (number k) None h n g = absurd h
fed-given (text t) None h n g = absurd h
fed-given (named w) None h n g = absurd h
fed-given (intr e) None h n g = absurd h
fed-given (hard b) None h n g = absurd h
fed-given (enum_of x scope) None h n g = absurd h

pub leads-named : (all : List Lineage) (n : Instance) → Leads all n → (p : Prop) → Named (setting n p) (item_at all n p)
leads-named all n h p = go (setting n p) refl
  where
    go : (m : Meaning) → setting n p ≡ m → Named m (item_at all n p)
    go (reference path item scope place) e = h.to_item p path item scope place e
    go unset e = tt
    go (flag b) e = tt
    go (number k) e = tt
    go (text t) e = tt
    go (named w) e = tt
    go (intr x) e = tt
    go (hard b) e = tt
    go (enum_of x scope) e = tt

pub feed-fed : (all : List Lineage) (n : Instance) (p : Prop) → Leads all n → IsOfForm (takes_of p) (setting n p) → takes_of p ≡ form.FlagRefer → has p n ≡ true → is_fed (feed_at all n p) ≡ true
feed-fed all n p l formed e g = fed-given (setting n p) (item_at all n p) (subst (λ f. IsOfForm f (setting n p)) e formed) (leads-named all n l p) g

-- Gates.

pub gate-fed : (all : List Lineage) (n : Instance) (high low : Prop) → ((p : Prop) → IsOfForm (takes_of p) (setting n p)) → takes_of high ≡ form.FlagRefer → takes_of low ≡ form.FlagRefer → Leads all n → IsTrue (is_gate_fed (gate_at all n high low))
gate-fed all n high low formed eh el l = go (has high n) refl (has low n) refl
  where
    go : (a : Bool) → has high n ≡ a → (b : Bool) → has low n ≡ b → is_gate_fed (cond a (gate.High (feed_at all n high)) (cond b (gate.Low (feed_at all n low)) gate.Always)) ≡ true
    go true p b q = feed-fed all n high l (formed high) eh p
    go false p true q = feed-fed all n low l (formed low) el q
    go false p false q = refl

-- the gate is there where one of the two is
pub gated-has : (all : List Lineage) (n : Instance) (high low : Prop) → is_gated (gate_at all n high low) ≡ (has high n || has low n)
gated-has all n high low = go (has high n) (has low n)
  where
    go : (a b : Bool) → is_gated (cond a (gate.High (feed_at all n high)) (cond b (gate.Low (feed_at all n low)) gate.Always)) ≡ (a || b)
    go true b = refl
    go false true = refl
    go false false = refl
