use Rattle.cam_image.proofs.Again.{upgrade_is_migration, upgrade_is_once}
use Rattle.cam_image.proofs.laws.upgrades.Goals as goal

pub returns-clause-migrated : goal.returns-clause-migrated
returns-clause-migrated c = upgrade_is_migration

pub returns-clause-once : goal.returns-clause-once
returns-clause-once c = upgrade_is_once
