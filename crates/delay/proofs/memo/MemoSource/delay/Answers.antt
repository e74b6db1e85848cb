use Rattle.std.proofs.Common.{◌≡◌, ◌%◌, ◌<◌, length, None, Ok, sym, ap, ◌∙◌, w32, to_z, of_z, rules}
use Rattle.std.proofs.lemmas.Int.{to_z-of_z}
use Rattle.delay.specs.Memo.{memo_means, recalled, keep_at}
use Rattle.delay.proofs.Memos.{still_keepable, sound_keepable, memo_same}
use Rattle.delay.proofs.memo.MemoSource.delay.Goals as goal

pub invariant_of-self-in-None : goal.invariant_of-self-in-None
invariant_of-self-in-None g c =
    let self = c.args.self.now in
    let means = g.S.Source.means self.source in
    let t = c.in_ok-ticks-in-None.ticks in
    let back : to_z w32 (of_z w32 t) ≡ t = to_z-of_z w32 t (search rules) in
    let e : means c.args.arc ≡ Ok (to_z w32 (of_z w32 t)) = sym c.delay-in-None.ensures.value ∙ c.in_ok-ticks-in-None.was ∙ ap Ok (sym back) in
    record {
      ok = still_keepable self.kept _ c.args.arc _ c.keep.ensures (sound_keepable means (g.S.Source.sound self.source) _ _ e) self.ok;
    }

pub returns-in_ok-ticks-in-None : goal.returns-in_ok-ticks-in-None
returns-in_ok-ticks-in-None g c =
    let self = c.args.self.now in
    let arc = c.args.arc in
    let means = g.S.Source.means self.source in
    let t = c.in_ok-ticks-in-None.ticks in
    let back : to_z w32 (of_z w32 t) ≡ t = to_z-of_z w32 t (search rules) in
    let e : means arc ≡ Ok (to_z w32 (of_z w32 t)) = sym c.delay-in-None.ensures.value ∙ c.in_ok-ticks-in-None.was ∙ ap Ok (sym back) in
    let within : arc % 32 < length self.kept = search rules in
    record {
      value = sym (ap (λ o. recalled o means arc) c.in-None.is ∙ e);
      same =
          ap (memo_means c.keep.new.kept) c.delay-in-None.ensures.same
          ∙ ap (λ kept. memo_means kept means) c.keep.ensures
          ∙ memo_same means arc _ e self.kept within c.in-None.is;
      level = c.delay-in-None.ensures.level;
      asked = (c.keep.ensures ∙ sym (ap (λ o. keep_at self.kept arc o (recalled o means arc)) c.in-None.is ∙ ap (λ e. keep_at self.kept arc None e) e), rw c.in-None.is c.delay-in-None.ensures.asked);
    }
