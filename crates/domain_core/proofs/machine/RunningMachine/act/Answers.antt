use Rattle.std.proofs.Common.{ℕ, ◌<◌, length, not, refl, ap, sym, ◌∙◌, subst}
use Rattle.std.proofs.lemmas.Bool.{false≢true}
use Rattle.std.proofs.lemmas.List.{length-set}
use Rattle.bootstrap.specs.Opening.{restarted}
use Rattle.bootstrap.specs.Step.{node_step}
use Rattle.virtual_switch.specs.Each.{KeepsPorts}
use Rattle.virtual_switch.specs.SwitchValue.{SwitchValue, private_of}
use Rattle.domain_core.specs.declared.entries.SmallReply.{SmallReply}
use Rattle.domain_core.specs.declared.event.Event.{Event}
use Rattle.domain_core.specs.declared.event.Event.TheVariants.{Config, Write, Read, Reset, Step, Move}
use Rattle.domain_core.specs.declared.event.Moved.{Moved}
use Rattle.domain_core.specs.declared.event.Reply.{Reply}
use Rattle.domain_core.specs.declared.event.Reply.TheVariants as reply_of
use Rattle.domain_core.specs.Devices.{node_at, host_at, with_node, with_host}
use Rattle.domain_core.specs.Entries as small
use Rattle.domain_core.specs.Entries.{is_look}
use Rattle.domain_core.specs.Hosts.{HostState, host_written, host_read}
use Rattle.domain_core.specs.Machine.{Machine, has_moved}
use Rattle.domain_core.specs.MachineValue.{MachineValue, IsIn}
use Rattle.domain_core.proofs.Acts.{told_alike, acts_alike, devices_alike, recorded_alike, kept_alike, not_not}
use Rattle.domain_core.proofs.Acts.{configured_alike, was_written, was_full}
use Rattle.domain_core.proofs.Outcomes.{of_part_nodes}
use Rattle.domain_core.proofs.Sizes.{as_large, still_of_part, large_by, large_with_node}
use Rattle.domain_core.proofs.Unchanged.{keeps_itself}
use Rattle.domain_core.proofs.machine.RunningMachine.act.Goals as goal
use Rattle.domain_core.proofs.machine.RunningMachine.act.Goals.{then-write, else-write}

pub invariant_of-self-in-Reset : goal.invariant_of-self-in-Reset
invariant_of-self-in-Reset g c =
    let v : MachineValue =
    record {
      part = c.self-in-Reset.inside.part;
      switch = c.self-in-Reset.inside.switch;
      devices = c.self-in-Reset.inside.devices;
    } in (
      still_of_part v v.switch c.reset.new.self c.self-in-Reset.invariant.0 refl
          (large_by v.devices (with_node c.in-Reset.node (restarted (node_at v.devices c.in-Reset.node)) v.devices)
          c.reset.new.self c.reset.ensures.state
          (large_with_node v.devices c.in-Reset.node (restarted (node_at v.devices c.in-Reset.node)) refl)),
      c.self-in-Reset.invariant.1,
    )

pub invariant_of-self-in-Step : goal.invariant_of-self-in-Step
invariant_of-self-in-Step g c =
    let v : MachineValue =
    record {
      part = c.self-in-Step.inside.part;
      switch = c.self-in-Step.inside.switch;
      devices = c.self-in-Step.inside.devices;
    } in (
      still_of_part v v.switch c.step.new.self c.self-in-Step.invariant.0 refl
          (large_by v.devices (with_node c.in-Step.node (node_step (node_at v.devices c.in-Step.node)).0 v.devices)
          c.step.new.self c.step.ensures.state
          (large_with_node v.devices c.in-Step.node (node_step (node_at v.devices c.in-Step.node)).0
          (c.steps_keep_the_size.ensures.one (node_at v.devices c.in-Step.node)))),
      c.self-in-Step.invariant.1,
    )

-- ---- a configuration byte

pub invariant_of-self : goal.invariant_of-self
invariant_of-self g c =
    let v : MachineValue =
    record { part = c.self.inside.part; switch = c.self.inside.switch; devices = c.self.inside.devices } in (
      still_of_part v c.feed.new.self v.devices c.self.invariant.0 (ap length c.feed.ensures.kept.ports)
          (as_large v.devices),
      c.self.invariant.1,
    )

pub returns-in-Config-clause-reply : goal.returns-in-Config-clause-reply
returns-in-Config-clause-reply g c =
    let v : MachineValue =
    record { part = c.self.inside.part; switch = c.self.inside.switch; devices = c.self.inside.devices } in
    let both =
    configured_alike v c.in-Config.byte c.feed.result c.feed.new.self c.self.invariant.0 c.feed.ensures.step in
    told_alike v c.args.self.now (Config c.in-Config.byte) c.args.event _ c.self.view_is c.in-Config.is
    (ap (λ (p : Machine × Reply). p.1) both)

pub returns-in-Config-clause-state : goal.returns-in-Config-clause-state
returns-in-Config-clause-state g c =
    let v : MachineValue =
    record { part = c.self.inside.part; switch = c.self.inside.switch; devices = c.self.inside.devices } in
    let both =
    configured_alike v c.in-Config.byte c.feed.result c.feed.new.self c.self.invariant.0 c.feed.ensures.step in
    acts_alike v c.args.self.now (Config c.in-Config.byte) c.args.event _ c.self.view_is c.in-Config.is
    (ap (λ (p : Machine × Reply). p.0) both)

pub returns-in-Config-clause-recorded : goal.returns-in-Config-clause-recorded
returns-in-Config-clause-recorded g c =
    recorded_alike _ c.args.self.now (Config c.in-Config.byte) c.args.event _ c.self.view_is c.in-Config.is refl

pub returns-in-Config-clause-part : goal.returns-in-Config-clause-part
returns-in-Config-clause-part g c = ap (λ (v : MachineValue). v.part) c.self.view_is

pub returns-in-Config-clause-kept : goal.returns-in-Config-clause-kept
returns-in-Config-clause-kept g c = kept_alike _ c.args.self.now _ c.self.view_is c.feed.ensures.kept

-- ---- a byte for a host

pub invariant_of-self-in-Write : goal.invariant_of-self-in-Write
invariant_of-self-in-Write g c =
    let v : MachineValue =
    record {
      part = c.self-in-Write.inside.part;
      switch = c.self-in-Write.inside.switch;
      devices = c.self-in-Write.inside.devices;
    } in
    let host : HostState = host_written c.in-Write.byte (host_at v.devices c.in-Write.host) in (
      still_of_part v v.switch c.write.new.self c.self-in-Write.invariant.0 refl
          (large_by v.devices (with_host c.in-Write.host host v.devices) c.write.new.self c.write.ensures.state
          (record { memories = refl; hosts = length-set v.devices.hosts c.in-Write.host host })),
      c.self-in-Write.invariant.1,
    )

pub returns-after-write-clause-reply : goal.returns-after-write-clause-reply
returns-after-write-clause-reply g c =
    told_alike _ c.args.self.now (Write c.in-Write.host c.in-Write.byte) c.args.event (small.reply_of c.if-write.reply)
    c.self-in-Write.view_is c.in-Write.is
    (elim c.if-write.branch [
      | then-write w ↦
          ap (λ (r : SmallReply). small.reply_of r) w.reply-is
          ∙ was_written _ (sym c.write.ensures.answer ∙ w.if-write.true)
      | else-write w ↦
          ap (λ (r : SmallReply). small.reply_of r) w.reply-is
          ∙ was_full _ (sym c.write.ensures.answer ∙ w.if-write.false)
    ])

pub returns-after-write-clause-recorded : goal.returns-after-write-clause-recorded
returns-after-write-clause-recorded g c =
    recorded_alike _ c.args.self.now (Write c.in-Write.host c.in-Write.byte) c.args.event _ c.self-in-Write.view_is
    c.in-Write.is refl

pub returns-after-write-clause-state : goal.returns-after-write-clause-state
returns-after-write-clause-state g c =
    devices_alike _ c.args.self.now (Write c.in-Write.host c.in-Write.byte) c.args.event _ _ c.self-in-Write.view_is
    c.in-Write.is c.write.ensures.state refl

pub returns-after-write-clause-part : goal.returns-after-write-clause-part
returns-after-write-clause-part g c = ap (λ (v : MachineValue). v.part) c.self-in-Write.view_is

pub returns-after-write-clause-kept : goal.returns-after-write-clause-kept
returns-after-write-clause-kept g c =
    kept_alike _ c.args.self.now _ c.self-in-Write.view_is
    (keeps_itself c.unchanged_words_count_nothing.ensures.unchanged _)

-- ---- a byte of a host

pub invariant_of-self-in-Read : goal.invariant_of-self-in-Read
invariant_of-self-in-Read g c =
    let v : MachineValue =
    record {
      part = c.self-in-Read.inside.part;
      switch = c.self-in-Read.inside.switch;
      devices = c.self-in-Read.inside.devices;
    } in
    let host : HostState = host_read (host_at v.devices c.in-Read.host) in (
      still_of_part v v.switch c.read.new.self c.self-in-Read.invariant.0 refl
          (large_by v.devices (with_host c.in-Read.host host v.devices) c.read.new.self c.read.ensures.state
          (record { memories = refl; hosts = length-set v.devices.hosts c.in-Read.host host })),
      c.self-in-Read.invariant.1,
    )

pub returns-in-Read-clause-reply : goal.returns-in-Read-clause-reply
returns-in-Read-clause-reply g c =
    told_alike _ c.args.self.now (Read c.in-Read.host) c.args.event _ c.self-in-Read.view_is c.in-Read.is
    (ap reply_of.Read c.read.ensures.answer)

pub returns-in-Read-clause-recorded : goal.returns-in-Read-clause-recorded
returns-in-Read-clause-recorded g c =
    recorded_alike _ c.args.self.now (Read c.in-Read.host) c.args.event _ c.self-in-Read.view_is c.in-Read.is refl

pub returns-in-Read-clause-state : goal.returns-in-Read-clause-state
returns-in-Read-clause-state g c =
    devices_alike _ c.args.self.now (Read c.in-Read.host) c.args.event _ _ c.self-in-Read.view_is c.in-Read.is
    c.read.ensures.state refl

pub returns-in-Read-clause-part : goal.returns-in-Read-clause-part
returns-in-Read-clause-part g c = ap (λ (v : MachineValue). v.part) c.self-in-Read.view_is

pub returns-in-Read-clause-kept : goal.returns-in-Read-clause-kept
returns-in-Read-clause-kept g c =
    kept_alike _ c.args.self.now _ c.self-in-Read.view_is
    (keeps_itself c.unchanged_words_count_nothing.ensures.unchanged _)

-- ---- a reset

pub returns-in-Reset-clause-reply : goal.returns-in-Reset-clause-reply
returns-in-Reset-clause-reply g c =
    told_alike _ c.args.self.now (Reset c.in-Reset.node) c.args.event _ c.self-in-Reset.view_is c.in-Reset.is refl

pub returns-in-Reset-clause-recorded : goal.returns-in-Reset-clause-recorded
returns-in-Reset-clause-recorded g c =
    recorded_alike _ c.args.self.now (Reset c.in-Reset.node) c.args.event _ c.self-in-Reset.view_is c.in-Reset.is refl

pub returns-in-Reset-clause-state : goal.returns-in-Reset-clause-state
returns-in-Reset-clause-state g c =
    devices_alike _ c.args.self.now (Reset c.in-Reset.node) c.args.event _ _ c.self-in-Reset.view_is c.in-Reset.is
    c.reset.ensures.state refl

pub returns-in-Reset-clause-part : goal.returns-in-Reset-clause-part
returns-in-Reset-clause-part g c = ap (λ (v : MachineValue). v.part) c.self-in-Reset.view_is

pub returns-in-Reset-clause-kept : goal.returns-in-Reset-clause-kept
returns-in-Reset-clause-kept g c =
    kept_alike _ c.args.self.now _ c.self-in-Reset.view_is
    (keeps_itself c.unchanged_words_count_nothing.ensures.unchanged _)

-- ---- a Step

pub returns-in-Step-clause-reply : goal.returns-in-Step-clause-reply
returns-in-Step-clause-reply g c =
    told_alike _ c.args.self.now (Step c.in-Step.node) c.args.event _ c.self-in-Step.view_is c.in-Step.is
    (ap reply_of.Stepped c.step.ensures.answer)

pub returns-in-Step-clause-recorded : goal.returns-in-Step-clause-recorded
returns-in-Step-clause-recorded g c =
    recorded_alike _ c.args.self.now (Step c.in-Step.node) c.args.event _ c.self-in-Step.view_is c.in-Step.is
    (ap not c.is_quiet-recorded.ensures ∙ not_not _)

pub returns-in-Step-clause-state : goal.returns-in-Step-clause-state
returns-in-Step-clause-state g c =
    devices_alike _ c.args.self.now (Step c.in-Step.node) c.args.event _ _ c.self-in-Step.view_is c.in-Step.is
    c.step.ensures.state refl

pub returns-in-Step-clause-part : goal.returns-in-Step-clause-part
returns-in-Step-clause-part g c = ap (λ (v : MachineValue). v.part) c.self-in-Step.view_is

pub returns-in-Step-clause-kept : goal.returns-in-Step-clause-kept
returns-in-Step-clause-kept g c =
    kept_alike _ c.args.self.now _ c.self-in-Step.view_is
    (keeps_itself c.unchanged_words_count_nothing.ensures.unchanged _)

-- ---- a Move

pub returns-in-Move-clause-reply : goal.returns-in-Move-clause-reply
returns-in-Move-clause-reply g c =
    told_alike _ c.args.self.now (Move c.in-Move.port) c.args.event _ refl c.in-Move.is
    (ap reply_of.Moved c.move_packet-moved.ensures.answer)

pub returns-in-Move-clause-recorded : goal.returns-in-Move-clause-recorded
returns-in-Move-clause-recorded g c =
    recorded_alike _ c.args.self.now (Move c.in-Move.port) c.args.event _ refl c.in-Move.is
    (c.has_moved-recorded.ensures ∙ ap (λ (m : Moved). has_moved m) c.move_packet-moved.ensures.answer)

pub returns-in-Move-clause-state : goal.returns-in-Move-clause-state
returns-in-Move-clause-state g c =
    acts_alike _ c.args.self.now (Move c.in-Move.port) c.args.event _ refl c.in-Move.is
    (λ i. record {
      switch = private_of (c.move_packet-moved.ensures.switch i);
      rest = (c.move_packet-moved.ensures.switch i).rest;
      devices = c.move_packet-moved.ensures.devices i;
    })

pub returns-in-Move-clause-part : goal.returns-in-Move-clause-part
returns-in-Move-clause-part g c = c.move_packet-moved.ensures.part

pub returns-in-Move-clause-kept : goal.returns-in-Move-clause-kept
returns-in-Move-clause-kept g c =
    subst (λ (s : SwitchValue). KeepsPorts c.args.self.now.switch s) (sym c.move_packet-moved.ensures.switch)
    (keeps_itself c.unchanged_words_count_nothing.ensures.unchanged c.args.self.now.switch)

-- ---- the host, node or port is there

pub write-requires : goal.write-requires
write-requires g c =
    subst (λ (n : ℕ). c.in-Write.host < n)
    (ap (λ (m : MachineValue). length m.part.hosts) (sym c.self-in-Write.view_is)
    ∙ sym c.self-in-Write.invariant.0.hosts)
    (subst (λ (e : Event). IsIn c.args.self.now.part e) c.in-Write.is c.requires.there)

pub read-requires : goal.read-requires
read-requires g c =
    subst (λ (n : ℕ). c.in-Read.host < n)
    (ap (λ (m : MachineValue). length m.part.hosts) (sym c.self-in-Read.view_is)
    ∙ sym c.self-in-Read.invariant.0.hosts)
    (subst (λ (e : Event). IsIn c.args.self.now.part e) c.in-Read.is c.requires.there)

pub reset-requires : goal.reset-requires
reset-requires g c =
    let v : MachineValue =
    record {
      part = c.self-in-Reset.inside.part;
      switch = c.self-in-Reset.inside.switch;
      devices = c.self-in-Reset.inside.devices;
    } in
    subst (λ (n : ℕ). c.in-Reset.node < n)
    (ap (λ (m : MachineValue). length m.part.nodes) (sym c.self-in-Reset.view_is)
    ∙ sym (of_part_nodes v c.self-in-Reset.invariant.0))
    (subst (λ (e : Event). IsIn c.args.self.now.part e) c.in-Reset.is c.requires.there)

pub is_quiet-recorded-requires : goal.is_quiet-recorded-requires
is_quiet-recorded-requires g c =
    let v : MachineValue =
    record {
      part = c.self-in-Step.inside.part;
      switch = c.self-in-Step.inside.switch;
      devices = c.self-in-Step.inside.devices;
    } in
    subst (λ (n : ℕ). c.in-Step.node < n)
    (ap (λ (m : MachineValue). length m.part.nodes) (sym c.self-in-Step.view_is)
    ∙ sym (of_part_nodes v c.self-in-Step.invariant.0))
    (subst (λ (e : Event). IsIn c.args.self.now.part e) c.in-Step.is c.requires.there)

pub step-requires : goal.step-requires
step-requires g c =
    let v : MachineValue =
    record {
      part = c.self-in-Step.inside.part;
      switch = c.self-in-Step.inside.switch;
      devices = c.self-in-Step.inside.devices;
    } in
    subst (λ (n : ℕ). c.in-Step.node < n)
    (ap (λ (m : MachineValue). length m.part.nodes) (sym c.self-in-Step.view_is)
    ∙ sym (of_part_nodes v c.self-in-Step.invariant.0))
    (subst (λ (e : Event). IsIn c.args.self.now.part e) c.in-Step.is c.requires.there)

pub move_packet-moved-requires : goal.move_packet-moved-requires
move_packet-moved-requires g c = subst (λ (e : Event). IsIn c.args.self.now.part e) c.in-Move.is c.requires.there

pub unreachable-requires : goal.unreachable-requires
unreachable-requires g c = false≢true (sym c.requires.no_look ∙ ap is_look c.in-Look.is)
