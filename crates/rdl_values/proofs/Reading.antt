-- Tables that grow by the parameters that a default names.
use Rattle.std.proofs.Common.{◌≡◌, ◌∙◌, ℕ, Bool, true, false, cond, bytes_eq, List, [], ◌∷◌, ◌++◌, Option, None, Some, is_some, option_and_then, refl, sym, ap, subst, append-nil}
use Rattle.std.specs.List.{AllByRecursion}
use Rattle.std.specs.Option.{option_or}
use Rattle.std.specs.Result.{result_ok}
use Rattle.rdl_tree.specs.declared.expr.Expr.{Expr}
use Rattle.rdl_tree.specs.declared.expr.Name.{Name}
use Rattle.rdl_tree.specs.declared.item.Param.{Param}
use Rattle.rdl_values.specs.Parameters.{Bound, typed}
use Rattle.rdl_values.specs.Values.{EnumOf, Names, Val, entry_named}
use Rattle.rdl_values.specs.Overlaid.{Plain, names_in, overlaid, plain_value}
use Rattle.rdl_values.specs.Reads.{AreReads, IsAdded, IsLike, IsPart, Reads}
use Rattle.rdl_values.proofs.Growing.{same_reads}
use Rattle.rdl_values.proofs.Steps.{overlaid-append}
use Rattle.rdl_values.proofs.Tables.{named-both}
use Rattle.plain_lemmas.proofs.Lists.{bytes_eq-itself, bytes_eq-same, each-append, each-imp}

pub reads_none : (bound old new : Bound) → new ≡ old → Reads bound [] old new
reads_none bound old new e = subst (Reads bound [] old) (sym e) (record { grown = λ n v h. h; part = λ h. h; same = λ h. tt })

-- what has the value of what is bound keeps it
same_grown : (bound old new : Bound) (n : List ℕ) → IsPart old new → IsPart new bound → entry_named n old ≡ entry_named n bound → entry_named n new ≡ entry_named n bound
same_grown bound old new n grown part h = go (entry_named n bound) refl (entry_named n new) refl
  where
    go : (o : Option Val) → entry_named n bound ≡ o → (w : Option Val) → entry_named n new ≡ w → entry_named n new ≡ entry_named n bound
    go (Some v) e w q = grown n v (h ∙ e) ∙ sym e
    go None e None q = q ∙ sym e
    go None e (Some v) q = let no : None ≡ Some v = sym e ∙ part n v q in cc

pub reads_both : (bound old mid new : Bound) (ms ns : List Name) → Reads bound ms old mid → Reads bound ns mid new → Reads bound (ms ++ ns) old new
reads_both bound old mid new ms ns one two = record {
  grown = λ n v h. two.grown n v (one.grown n v h);
  part = λ h. two.part (one.part h);
  same = λ h.
      let first = each-imp _ _ ms (λ n q. same_grown bound mid new n.text.now two.grown (two.part (one.part h)) q) (one.same h) in
      each-append (λ n. entry_named n.text.now new ≡ entry_named n.text.now bound) ms ns first (two.same (one.part h));
}

-- a name that is not bound
pub reads_free : (bound old new : Bound) (name : Name) → new ≡ old → None ≡ entry_named name.text.now bound → Reads bound (name ∷ []) old new
reads_free bound old new name e free = subst (Reads bound (name ∷ []) old) (sym e) (record { grown = λ n v h. h; part = λ h. h; same = λ h. (there h (entry_named name.text.now old) refl, tt) })
  where
    there : IsPart old bound → (o : Option Val) → entry_named name.text.now old ≡ o → entry_named name.text.now old ≡ entry_named name.text.now bound
    there h None q = q ∙ free
    there h (Some v) q = let no : None ≡ Some v = free ∙ h name.text.now v q in cc

-- one name more, behind the others
named-more : (t : Bound) (n m : List ℕ) (v : Val) → entry_named n t ≡ None → (o : Option Val) → entry_named m t ≡ o → entry_named m (t ++ ((n, v) ∷ [])) ≡ (cond (is_some o) o (cond (bytes_eq n m) (Some v) None))
named-more [] n m v free o e = go o (bytes_eq n m) refl e
  where
    go : (o : Option Val) (b : Bool) → bytes_eq n m ≡ b → None ≡ o → entry_named m ((n, v) ∷ []) ≡ cond (is_some o) o (cond (bytes_eq n m) (Some v) None)
    go None true q h = rw q refl
    go None false q h = rw q refl
    go (Some w) b q h = cc
named-more (x ∷ t) n m v free o e = go (bytes_eq x.0 m) refl (bytes_eq x.0 n) refl (named-more t n m v) e free
  where
    go : (b : Bool) → bytes_eq x.0 m ≡ b → (c : Bool) → bytes_eq x.0 n ≡ c → (entry_named n t ≡ None → (o : Option Val) → entry_named m t ≡ o → entry_named m (t ++ ((n, v) ∷ [])) ≡ cond (is_some o) o (cond (bytes_eq n m) (Some v) None))
        → entry_named m (x ∷ t) ≡ o → entry_named n (x ∷ t) ≡ None → entry_named m (x ∷ (t ++ ((n, v) ∷ []))) ≡ cond (is_some o) o (cond (bytes_eq n m) (Some v) None)
    go b q true r rest h k = let no : Some x.1 ≡ None = sym (rw r refl) ∙ k in cc
    go true q false r rest h k =
        let here : Some x.1 ≡ o = sym (rw q refl) ∙ h in
        subst (λ o. entry_named m (x ∷ (t ++ ((n, v) ∷ []))) ≡ cond (is_some o) o (cond (bytes_eq n m) (Some v) None)) here (rw q refl)
    go false q false r rest h k =
        let behind : entry_named m t ≡ o = sym (rw q refl) ∙ h in
        let fresh : entry_named n t ≡ None = sym (rw r refl) ∙ k in
        rw q (rest fresh o behind)

-- a name that is bound
pub reads_bound : (bound old new : Bound) (name : Name) (v : Val) → entry_named name.text.now bound ≡ Some v → new ≡ cond (is_some (entry_named name.text.now old)) old (old ++ ((name.text.now, v) ∷ [])) → Reads bound (name ∷ []) old new
reads_bound bound old new name v is e = go (entry_named name.text.now old) refl
  where
    go : (o : Option Val) → entry_named name.text.now old ≡ o → Reads bound (name ∷ []) old new
    go (Some w) q =
        let kept : new ≡ old = e ∙ ap (λ o. cond (is_some o) old (old ++ ((name.text.now, v) ∷ []))) q in
        subst (Reads bound (name ∷ []) old) (sym kept) (record { grown = λ n x h. h; part = λ h. h; same = λ h. (q ∙ sym (h name.text.now w q), tt) })
    go None q =
        let added : new ≡ old ++ ((name.text.now, v) ∷ []) = e ∙ ap (λ o. cond (is_some o) old (old ++ ((name.text.now, v) ∷ []))) q in
        let m = name.text.now in
        let at = λ (n : List ℕ) (o : Option Val) (h : entry_named n old ≡ o). named-more old m n v q o h in
        subst (Reads bound (name ∷ []) old) (sym added) (record {
          grown = λ n x h. at n (Some x) h;
          part = λ h n x k. part_of h n x (entry_named n old) refl (at n (entry_named n old) refl) k;
          same = λ h. (at m None q ∙ ap (λ b. cond b (Some v) None) (bytes_eq-itself m) ∙ sym is, tt);
        })
      where
        part_of : IsPart old bound → (n : List ℕ) (x : Val) (o : Option Val) → entry_named n old ≡ o → entry_named n (old ++ ((name.text.now, v) ∷ [])) ≡ cond (is_some o) o (cond (bytes_eq name.text.now n) (Some v) None)
            → entry_named n (old ++ ((name.text.now, v) ∷ [])) ≡ Some x → entry_named n bound ≡ Some x
        part_of h n x (Some w) r s k = h n x (r ∙ sym s ∙ k)
        part_of h n x None r s k = last (bytes_eq name.text.now n) refl (sym s ∙ k)
          where
            last : (b : Bool) → bytes_eq name.text.now n ≡ b → cond (bytes_eq name.text.now n) (Some v) None ≡ Some x → entry_named n bound ≡ Some x
            last true p l = let one : Some v ≡ Some x = sym (rw p refl) ∙ l in ap (λ m. entry_named m bound) (sym (bytes_eq-same name.text.now n p)) ∙ is ∙ one
            last false p l = let no : None ≡ Some x = sym (rw p refl) ∙ l in cc

-- all of them, in a table of their own
pub all_read : (bound : Bound) (e : Expr) (old new : Names) → old ≡ record { bound = []; enums = [] } → new.enums ≡ old.enums → Reads bound (names_in e) old.bound new.bound → AreReads bound e new
all_read bound e old new empty enums h outer p =
    let none : IsPart old.bound bound = subst (λ t. IsPart t bound) (sym (ap (λ t. t.bound) empty)) (λ n v k. cc) in
    let no_enums : new.enums ≡ [] = enums ∙ ap (λ t. t.enums) empty in
    let table : new ≡ record { bound = new.bound; enums = [] } = ap (λ (es : List EnumOf). record { bound = new.bound; enums = es }) no_enums in
    ap (λ t. typed (t ∷ outer) p e) table ∙ same_reads new.bound bound outer p e (h.same none)

-- A table that has each name's value.

each-of : {X : Type 0} (P : X → Type 0) → ((x : X) → P x) → (xs : List X) → AllByRecursion P xs
each-of P h [] = tt
each-of P h (x ∷ xs) = (h x, each-of P h xs)

pub like_none : (t : Names) → t ≡ record { bound = []; enums = [] } → IsLike t []
like_none t e = record { enums = ap (λ t. t.enums) e; same = λ n. ap (λ t. entry_named n t.bound) e }

-- the value that a default has by it
pub default_like : (t : Names) (bound : Bound) (p : Param) → IsLike t bound → option_and_then (λ e. result_ok (typed (t ∷ []) p e)) p.default ≡ plain_value bound p
default_like t bound p h = go p.default
  where
    table : t ≡ record { bound = t.bound; enums = [] }
    table = ap (λ (es : List EnumOf). record { bound = t.bound; enums = es }) h.enums

    go : (o : Option Expr) → option_and_then (λ e. result_ok (typed (t ∷ []) p e)) o ≡ option_and_then (λ e. result_ok (typed ((record { bound = bound; enums = [] }) ∷ []) p e)) o
    go None = refl
    go (Some e) = ap (λ t. result_ok (typed (t ∷ []) p e)) table ∙ ap result_ok (same_reads t.bound bound [] p e (each-of _ (λ (n : Name). h.same n.text.now) (names_in e)))

-- one value more
pub like_more : (old new : Names) (xs : Plain) (n : List ℕ) (o : Option Val) → IsLike old (overlaid xs []) → new.enums ≡ old.enums → IsAdded n o old.bound new.bound → IsLike new (overlaid (xs ++ ((n, o) ∷ [])) [])
like_more old new xs n None h e added = record {
  enums = e ∙ h.enums;
  same = λ m. ap (entry_named m) added ∙ h.same m ∙ ap (entry_named m) (sym (overlaid-append xs ((n, None) ∷ []) [] ∙ append-nil (overlaid xs [])));
}
like_more old new xs n (Some v) h e added = record {
  enums = e ∙ h.enums;
  same = λ m. go m (entry_named n old.bound) refl ∙ ap (λ o. option_or o (entry_named m ((n, v) ∷ []))) (h.same m) ∙ sym (named-both m (overlaid xs []) ((n, v) ∷ [])) ∙ ap (entry_named m) (sym (overlaid-append xs ((n, Some v) ∷ []) []));
}
  where
    kept : (m : List ℕ) (w : Val) → entry_named n old.bound ≡ Some w → (o : Option Val) → entry_named m old.bound ≡ o → (b : Bool) → bytes_eq n m ≡ b → entry_named m old.bound ≡ option_or (entry_named m old.bound) (entry_named m ((n, v) ∷ []))
    kept m w q (Some x) r b s = rw r refl
    kept m w q None r false s = rw (r, s) refl
    kept m w q None r true s = let no : None ≡ Some w = sym r ∙ ap (λ k. entry_named k old.bound) (sym (bytes_eq-same n m s)) ∙ q in cc

    go : (m : List ℕ) (o : Option Val) → entry_named n old.bound ≡ o → entry_named m new.bound ≡ option_or (entry_named m old.bound) (entry_named m ((n, v) ∷ []))
    go m (Some w) q = ap (entry_named m) (added ∙ ap (λ o. cond (is_some o) old.bound (old.bound ++ ((n, v) ∷ []))) q) ∙ kept m w q (entry_named m old.bound) refl (bytes_eq n m) refl
    go m None q = ap (entry_named m) (added ∙ ap (λ o. cond (is_some o) old.bound (old.bound ++ ((n, v) ∷ []))) q) ∙ named-both m old.bound ((n, v) ∷ [])
