-- `pull` meets its contract.
use borrow.Author.Rules.{rules}
use Rattle.std.proofs.Common.{◌≡◌, ap, true, false, Option, is_none, unwrap_or}
use Rattle.rules.specs.Places.{wheel01}
use Rattle.wheel_rules.specs.declared.calls.Event.{Event}
use Rattle.wheel_rules.specs.declared.calls.Event.TheVariants.{End}
use Rattle.wheel_rules.specs.popping.Pop.{going, event_of}
use Rattle.wheel_rules.specs.pull.Skips.{Passes}
use Rattle.wheel_rules.proofs.pull.Pulling.{pull_asks, pull_ends}
use Rattle.wheel_rules.proofs.pull.Skipping.{skip_asks, skip_less, skip_again}
use Rattle.wheel_advance.proofs.pull.pull.Goals as goal

pub take_turn-t-requires : goal.take_turn-t-requires
take_turn-t-requires c = pull_asks _ _ _ _ c.requires _ _ c.loop-event.invariant.pulling

pub returns-in-Some-clause-does : goal.returns-in-Some-clause-does
returns-in-Some-clause-does c =
    let t = c.take_turn-t in
    let ends : going t.result ≡ false = ap (λ (o : Option Event). is_none o) c.in-Some.is in
    let is : event_of t.result ≡ c.in-Some.event = ap (λ (o : Option Event). unwrap_or o End) c.in-Some.is in
    rw (← is) (pull_ends _ _ _ _ c.requires _ _ c.loop-event.invariant.pulling _ _ t.ensures.does ends)

pub pass_over-c-requires : goal.pass_over-c-requires
pass_over-c-requires c =
    let t = c.take_turn-t in
    let on : going t.result ≡ true = ap (λ (o : Option Event). is_none o) c.in_default.is in
    rw (c.as_read.ensures.heads, c.as_read.ensures.next)
    (skip_asks _ _ _ _ c.requires _ _ c.loop-event.invariant.pulling _ _ t.ensures.does on)

pub loop-event-smaller : goal.loop-event-smaller
loop-event-smaller c =
    let t = c.take_turn-t in
    let on : going t.result ≡ true = ap (λ (o : Option Event). is_none o) c.in_default.is in
    let passes : Passes wheel01 t.new.nodes.linked.heads.now t.new.nodes.linked.next.now t.result.clock c.pass_over-c.result =
    rw (← c.as_read.ensures.heads, ← c.as_read.ensures.next) c.pass_over-c.ensures in
    skip_less _ _ _ _ c.requires _ _ c.loop-event.invariant.pulling _ _ t.ensures.does on _ passes

pub loop-event-preserved : goal.loop-event-preserved
loop-event-preserved c =
    let t = c.take_turn-t in
    let on : going t.result ≡ true = ap (λ (o : Option Event). is_none o) c.in_default.is in
    let passes : Passes wheel01 t.new.nodes.linked.heads.now t.new.nodes.linked.next.now t.result.clock c.pass_over-c.result =
    rw (← c.as_read.ensures.heads, ← c.as_read.ensures.next) c.pass_over-c.ensures in
    record {
      pulling = skip_again _ _ _ _ c.requires _ _ c.loop-event.invariant.pulling _ _ t.ensures.does on _ passes;
      same = search rules;
    }
