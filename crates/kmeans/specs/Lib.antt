pub mod Kmeans
