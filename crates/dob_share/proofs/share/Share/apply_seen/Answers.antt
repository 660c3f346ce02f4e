-- What an item does at its class's place: its fault, the class's cell, the other cells, and the settlement it makes.
use Rattle.std.proofs.Common.{refl}
use Rattle.dob_share.proofs.Owning.{place_within, unseen, seen_kept, refused, no_settlement, one_settlement}
use Rattle.dob_share.proofs.share.Share.apply_seen.Goals as goal

pub returns-in_default-clause-applied : goal.returns-in_default-clause-applied
returns-in_default-clause-applied c = unseen c.args.self.now c.args.item c.args.seen c.in_default.is c.requires.seen

pub apply_at-requires-clause-place : goal.apply_at-requires-clause-place
apply_at-requires-clause-place c = (place_within c.args.self.now c.args.item.to c.args.seen c.in-Some.seen c.in-Some.is c.requires.seen).0

pub apply_at-requires-clause-start : goal.apply_at-requires-clause-start
apply_at-requires-clause-start c = (place_within c.args.self.now c.args.item.to c.args.seen c.in-Some.seen c.in-Some.is c.requires.seen).1

pub returns-in-Ok-None-clause-applied : goal.returns-in-Ok-None-clause-applied
returns-in-Ok-None-clause-applied c =
    no_settlement c.args.self.now c.args.item c.args.seen c.in-Some.seen c.in-Some.is c.requires.seen _ refl refl refl c.apply_at.result c.in-Ok-None.field-0
    c.in-Ok-None.is c.apply_at.ensures c.in-Ok-None.field-0-is refl

pub returns-in-Ok-None-clause-seen : goal.returns-in-Ok-None-clause-seen
returns-in-Ok-None-clause-seen c =
    seen_kept c.args.self.now _ refl refl refl c.apply_at.ensures.starts

pub returns-in-Ok-Some-clause-applied : goal.returns-in-Ok-Some-clause-applied
returns-in-Ok-Some-clause-applied c =
    one_settlement c.args.self.now c.args.item c.args.seen c.in-Some.seen c.in-Some.is c.requires.seen _ refl refl refl c.apply_at.result c.in-Ok-Some.field-0
    c.in-Ok-Some.is c.apply_at.ensures c.in-Ok-Some.was c.in-Ok-Some.now c.in-Ok-Some.field-0-is refl

pub returns-in-Ok-Some-clause-seen : goal.returns-in-Ok-Some-clause-seen
returns-in-Ok-Some-clause-seen c =
    seen_kept c.args.self.now _ refl refl refl c.apply_at.ensures.starts

pub returns-in-Err-clause-applied : goal.returns-in-Err-clause-applied
returns-in-Err-clause-applied c =
    refused c.args.self.now c.args.item c.args.seen c.in-Some.seen c.in-Some.is c.requires.seen c.apply_at.new.slots c.apply_at.new.pool _
    c.apply_at.result c.in-Err.fault c.in-Err.is c.apply_at.ensures
