-- The Rust's defaults: 4, 4, 100 plain; 25, 4, 256 cells, 8 probes, 100 celled.
use Rattle.pq_params.specs.declared.PQParams.{PQParams}
use Rattle.pq_params.specs.declared.IVFPQParams.{IVFPQParams}

abbrev pub plain_default : PQParams
plain_default = record { n_sub = 4; sub_bits = 4; train_epoch = 100 }

abbrev pub celled_default : IVFPQParams
celled_default = record { n_sub = 25; sub_bits = 4; n_kmeans_center = 256; search_n_center = 8; train_epoch = 100 }
