-- Lemmas about sets of ids, page by page.
use Rattle.std.proofs.Common.{◌≡◌, ◌≢◌, ℕ, ◌/◌, ◌%◌, ◌<◌, ◌==◌, ◌||◌, false, List, length, get_or, set, replicate, Some, sym, ap, ◌∙◌, inl, inr, length-set, get_or-set_same, get_or-set_other, arith}
use Rattle.std.specs.Prelude.{slice_get}
use Rattle.std.proofs.lemmas.Bool.{cases_eq, cases_lt, ne_eqb, eq-eqb}
use Rattle.std.proofs.lemmas.List.{get_or-replicate, length-replicate}
use Rattle.std.proofs.lemmas.Option.{slice_get-get_or, slice_get_past}
use Rattle.regress_base.specs.ByteBitmap.{contains}
use Rattle.regress_base.specs.declared.bytesearch.bitmap.ByteBitmap.{ByteBitmap}
use Rattle.regress_tree.specs.declared.ir.groups.GroupIds.{GroupIds}
use Rattle.regress_tree.specs.Survey.{page_holds, holds}

module _ (pages : List ByteBitmap) (i : ℕ) (new : ByteBitmap) where
  page_set : i < length pages → slice_get (set pages i new) i ≡ Some new
  page_set h =
      let inside : i < length (set pages i new) = rw length-set h in
      slice_get-get_or (set pages i new) i new inside ∙ ap Some (get_or-set_same pages i new new h)

  other_page : (j : ℕ) → j ≢ i → slice_get (set pages i new) j ≡ slice_get pages j
  other_page j ne =
      elim (cases_lt j (length pages)) [
        | inl h ↦
            let inside : j < length (set pages i new) = rw length-set h in
            slice_get-get_or (set pages i new) j new inside ∙ ap Some (get_or-set_other pages i j new new ne)
            ∙ sym (slice_get-get_or pages j new h)
        | inr h ↦ slice_get_past (set pages i new) j (rw length-set h) ∙ sym (slice_get_past pages j h)
      ]

module _ (ids : GroupIds) (id : ℕ) (d : ByteBitmap) (inside : id / 256 < length ids.pages) where
  abbrev page : ByteBitmap
  page = get_or ids.pages (id / 256) d

  page_there : slice_get ids.pages (id / 256) ≡ Some page
  page_there = slice_get-get_or ids.pages (id / 256) d inside

  pub holds-there : contains page (id % 256) ≡ holds ids id
  unfolding holds
  holds-there = sym (ap (λ p. page_holds p (id % 256)) page_there)

  pub holds-insert : (new : ByteBitmap) → ((b : ℕ) → contains new b ≡ ((b == id % 256) || contains page b)) → (k : ℕ) →
      holds (record { pages = set ids.pages (id / 256) new }) k ≡ ((k == id) || holds ids k)
  unfolding holds
  holds-insert new more k =
      elim (cases_eq (k / 256) (id / 256)) [
        | inl same ↦
            rw (same, page_set ids.pages (id / 256) new inside, page_there, more (k % 256), one_page k id same)
        | inr other ↦
            rw (other_page ids.pages (id / 256) new (k / 256) other, ne_eqb k id (λ e. other (ap (λ n. n / 256) e)))
      ]
    where
      one_page : (k id : ℕ) → k / 256 ≡ id / 256 → (k % 256 == id % 256) ≡ (k == id)
      one_page k id same =
          elim (cases_eq k id) [
            | inl e ↦ eq-eqb (k % 256) (id % 256) (ap (λ n. n % 256) e) ∙ sym (eq-eqb k id e)
            | inr ne ↦ ne_eqb (k % 256) (id % 256) (λ e. ne (omega (arith, same, e))) ∙ sym (ne_eqb k id ne)
          ]

-- Empty pages contain no id.
pub holds-none : (page : ByteBitmap) → ((b : ℕ) → contains page b ≡ false) → (n k : ℕ) →
    holds (record { pages = replicate n page }) k ≡ false
unfolding holds
holds-none page none n k =
    elim (cases_lt (k / 256) n) [
      | inl h ↦
          let inside : k / 256 < length (replicate n page) = rw length-replicate h in
          rw (slice_get-get_or (replicate n page) (k / 256) page inside, get_or-replicate n (k / 256) page page h) (none (k % 256))
      | inr h ↦ rw (slice_get_past (replicate n page) (k / 256) (rw length-replicate h))
    ]
