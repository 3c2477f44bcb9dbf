use Rattle.std.proofs.Common.{sym, ap}
use Rattle.std.specs.Option.{option_map}
use Rattle.gwalk.proofs.TagChains.{commit_at, tag_at, tag_named}
use Rattle.gwalk.proofs.ordered.tags.named_position.Goals as goal

pub returns-in-Commit : goal.returns-in-Commit
returns-in-Commit g c =
    commit_at c.args.graph.now.entries c.requires.order c.args.position c.requires.held c.in_ok-node.node.now (ap (option_map (λ entry. entry.node)) c.in_ok-node.ensures.at) c.in-Commit.is

pub returns-in_ok-first-in-Tag : goal.returns-in_ok-first-in-Tag
returns-in_ok-first-in-Tag g c =
    let names = rw c.as_slice.ensures at (sym c.in_ok-first-in-Tag.ensures.value) in
    rw c.position.ensures (tag_at c.args.graph.now.entries c.requires.order c.args.position c.requires.held c.in_ok-node.node.now (ap (option_map (λ entry. entry.node)) c.in_ok-node.ensures.at) c.in_ok-first-in-Tag.field-0.now c.in-Tag.is names)

pub returns-in_err-first-in-Tag : goal.returns-in_err-first-in-Tag
returns-in_err-first-in-Tag g c =
    let none = rw c.as_slice.ensures at (sym c.in_err-first-in-Tag.ensures.value) in
    absurd (tag_named c.args.graph.now.entries c.requires.order c.args.position c.requires.held c.in_ok-node.node.now (ap (option_map (λ entry. entry.node)) c.in_ok-node.ensures.at) c.in-Tag.is none)
